use Rattle.std.proofs.Common.{◌∙◌, ap}
use Rattle.smv_type_laws.specs.FirstBreach.{first_of}
use Rattle.smv_type_laws.specs.Models.{variable_breaches}
use Rattle.smv_language.specs.ModelTree.{model_tree}
use Rattle.smv_types.specs.Sites.{told_first_site, earlier_site}
use Rattle.smv_types.proofs.PartLaws.{all_sites}
use Rattle.smv_types.proofs.whole.first_in_all.Goals as goal

pub returns : goal.returns
returns c =
    c.earlier-2.ensures ∙ ap (λ s. earlier_site s c.earlier.result) c.requires.variables
    ∙ ap (earlier_site (told_first_site (first_of (variable_breaches (model_tree c.args.m.now).variables))))
    (c.earlier.ensures ∙ ap (λ s. earlier_site s c.judge_conditions-conditions.result) c.requires.definitions ∙ ap (earlier_site _) c.judge_conditions-conditions.ensures)
    ∙ all_sites c.args.m.now c.args.sorts.now c.requires.kinds
