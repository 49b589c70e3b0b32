use Rattle.std.proofs.Common.{◌∙◌, ap}
use Rattle.smv_language.specs.Language.{program_tree, is_among}
use Rattle.fault_rules.proofs.LocalLaws.{program_has}
use Rattle.fault_rules.proofs.modules.KnownProgram.has_name.Goals as goal

pub returns : goal.returns
returns c =
    c.has.ensures ∙ ap (is_among c.args.self.now.names) c.text.ensures ∙ ap (λ xs. is_among xs c.args.name.now) c.requires.names ∙ program_has c.args.name.now (program_tree c.args.self.now.program.now)
