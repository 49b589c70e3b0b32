use Rattle.std.proofs.Common.{◌∙◌, ap}
use Rattle.std.specs.Prelude.{option_map}
use Rattle.fault_rules.specs.Locals.{locals_in, scopes_in}
use Rattle.fault_rules.proofs.KeyedLaws.{found_first}
use Rattle.fault_rules.proofs.modules.KnownProgram.find.Goals as goal
use Rattle.smv_language.specs.Texts.{first_with}

pub returns : goal.returns
returns c =
    ap (option_map locals_in) c.get.ensures.value ∙ found_first (λ k. k.now) locals_in c.args.self.now.scopes.entries c.text.result.now ∙ ap (first_with (scopes_in c.args.self.now)) c.text.ensures
