use Rattle.std.proofs.Common.{◌∙◌, ap}
use Rattle.smv_language.specs.Language.{model_tree, tree_of}
use Rattle.smv_type_laws.specs.ExpressionKinds.{judge}
use Rattle.smv_types.specs.Answers.{told}
use Rattle.smv_types.specs.Names.{name_kind}
use Rattle.smv_types.proofs.KeptLaws.{judged_as_in}
use Rattle.smv_types.proofs.calls.judge_in.Goals as goal

pub returns : goal.returns
returns c =
    c.judge.ensures ∙ ap (λ s. told (judge (name_kind s) c.args.sets (tree_of c.args.e.now))) c.sorts.ensures.sorts
    ∙ ap told (judged_as_in (model_tree c.args.t.now.model) {s = c.args.t.now.sorts} c.sorts.ensures.kinds c.args.sets c.args.e.now)
