use Rattle.std.proofs.Common.{◌∙◌, sym, ap, is_some}
use Rattle.smv_language.specs.Language.{program_tree, first_with, opposite}
use Rattle.fault_rules.specs.Locals.{locals_in, scopes_in}
use Rattle.fault_rules.proofs.KeyedLaws.{has_key}
use Rattle.fault_rules.proofs.LocalLaws.{missing_is}
use Rattle.fault_rules.proofs.modules.KnownProgram.has_module.Goals as goal

pub returns : goal.returns
returns c =
    missing_is (program_tree c.args.self.now.program.now) c.args.name.now ∙ ap (λ s. opposite (is_some (first_with s c.args.name.now))) (sym c.requires.scopes)
    ∙ ap (λ x. opposite (is_some (first_with (scopes_in c.args.self.now) x))) (sym c.text.ensures)
    ∙ ap opposite (sym (has_key (λ k. k.now) locals_in c.args.self.now.scopes.entries c.text.result.now)) ∙ ap opposite (sym c.contains_key.ensures)
