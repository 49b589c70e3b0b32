use Rattle.std.proofs.Common.{sym, ap, ◌∙◌, subst}
use Rattle.std.specs.Prelude.{Err}
use Rattle.fault_instructions.specs.Instructions.{instruction_tree}
use Rattle.fault_reader.specs.Symbols.{IsInstructions}
use Rattle.fault_reader.specs.InstructionParts.{file_at}
use Rattle.fault_reader.proofs.FileReads.{file_spelled, file_only, file_depths, file_deep, file_made}
use Rattle.fault_reader.proofs.reader.make.Goals as goal

pub unreachable-requires : goal.unreachable-requires
unreachable-requires c =
    file_made c.args.texts.now c.requires.spelled (ap file_at (sym c.new-cursor.ensures) ∙ c.file.ensures.none (c.in-Err-NoTree.is ∙ ap Err c.in-Err-NoTree.field-0-is))

pub returns-in-Ok-clause-spelled : goal.returns-in-Ok-clause-spelled
returns-in-Ok-clause-spelled c =
    file_spelled c.args.bytes.now c.args.tokens.now (instruction_tree c.in-Ok.instructions) c.file.new.cursor c.requires.split (subst IsInstructions c.requires.same c.requires.spelled)
    (ap file_at (sym (c.new-cursor.ensures ∙ c.requires.same)) ∙ c.in-Ok.ensures.ok)

pub returns-in-Ok-clause-depths : goal.returns-in-Ok-clause-depths
returns-in-Ok-clause-depths c =
    file_depths c.args.bytes.now c.args.tokens.now (instruction_tree c.in-Ok.instructions) c.file.new.cursor c.requires.only
    (ap file_at (sym (c.new-cursor.ensures ∙ c.requires.same)) ∙ c.in-Ok.ensures.ok)

pub returns-in-Ok-clause-only : goal.returns-in-Ok-clause-only
returns-in-Ok-clause-only c =
    file_only c.args.bytes.now c.args.tokens.now (instruction_tree c.in-Ok.instructions) c.file.new.cursor c.requires.only
    (ap file_at (sym (c.new-cursor.ensures ∙ c.requires.same)) ∙ c.in-Ok.ensures.ok)

pub returns-in-Err-TooDeep-clause-fault : goal.returns-in-Err-TooDeep-clause-fault
returns-in-Err-TooDeep-clause-fault c =
    file_deep c.args.bytes.now c.args.tokens.now c.requires.split (subst IsInstructions c.requires.same c.requires.spelled)
    (ap file_at (sym (c.new-cursor.ensures ∙ c.requires.same)) ∙ c.file.ensures.deep (c.in-Err-TooDeep.is ∙ ap Err c.in-Err-TooDeep.field-0-is))
