use Rattle.std.proofs.Common.{◌∙◌, ap, sym}
use Rattle.std.specs.Prelude.{option_map}
use Rattle.std.specs.Option.{option_copied}
use Rattle.fault_rules.specs.Locals.{local_tree, locals_in}
use Rattle.fault_rules.proofs.KeyedLaws.{found_first}
use Rattle.fault_rules.proofs.modules.ModuleScope.local.Goals as goal
use Rattle.smv_language.specs.Texts.{first_with}

pub returns-in-Some : goal.returns-in-Some
returns-in-Some c =
    sym (ap (λ r. option_map local_tree (option_copied r)) c.in-Some.is) ∙ ap (option_map local_tree) c.get.ensures.value
    ∙ found_first (λ k. k.now) local_tree c.args.self.now.locals.entries c.text.result.now ∙ ap (first_with (locals_in c.args.self.now)) c.text.ensures

pub returns-in-None : goal.returns-in-None
returns-in-None c =
    sym (ap (λ r. option_map local_tree (option_copied r)) c.in-None.is) ∙ ap (option_map local_tree) c.get.ensures.value
    ∙ found_first (λ k. k.now) local_tree c.args.self.now.locals.entries c.text.result.now ∙ ap (first_with (locals_in c.args.self.now)) c.text.ensures
