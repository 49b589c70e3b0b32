use Rattle.std.proofs.Common.{sym, ap, ◌∙◌, subst}
use Rattle.std.specs.Prelude.{Err}
use Rattle.smv_language.specs.ProgramTree.{program_tree as tree_of_program}
use Rattle.smv_model_reader.specs.Symbols.{IsProgram}
use Rattle.smv_model_reader.specs.ProgramParts.{program_at}
use Rattle.smv_model_reader.proofs.PartReads.{program_spelled, program_only, program_depths, program_deep, program_made}
use Rattle.smv_model_reader.proofs.reader.make_program.Goals as goal

pub unreachable-requires : goal.unreachable-requires
unreachable-requires c =
    program_made c.args.texts.now c.requires.spelled (ap program_at (sym c.new-cursor.ensures) ∙ c.program_tree.ensures.none (c.in-Err-NoTree.is ∙ ap Err c.in-Err-NoTree.field-0-is))

pub returns-in-Ok-clause-spelled : goal.returns-in-Ok-clause-spelled
returns-in-Ok-clause-spelled c =
    program_spelled c.args.bytes.now c.args.tokens.now (tree_of_program c.in-Ok.program) c.program_tree.new.cursor c.requires.split (subst IsProgram c.requires.same c.requires.spelled)
    (ap program_at (sym (c.new-cursor.ensures ∙ c.requires.same)) ∙ c.in-Ok.ensures.ok)

pub returns-in-Ok-clause-depths : goal.returns-in-Ok-clause-depths
returns-in-Ok-clause-depths c =
    program_depths c.args.bytes.now c.args.tokens.now (tree_of_program c.in-Ok.program) c.program_tree.new.cursor c.requires.only
    (ap program_at (sym (c.new-cursor.ensures ∙ c.requires.same)) ∙ c.in-Ok.ensures.ok)

pub returns-in-Ok-clause-only : goal.returns-in-Ok-clause-only
returns-in-Ok-clause-only c =
    program_only c.args.bytes.now c.args.tokens.now (tree_of_program c.in-Ok.program) c.program_tree.new.cursor c.requires.only
    (ap program_at (sym (c.new-cursor.ensures ∙ c.requires.same)) ∙ c.in-Ok.ensures.ok)

pub returns-in-Err-TooDeep-clause-fault : goal.returns-in-Err-TooDeep-clause-fault
returns-in-Err-TooDeep-clause-fault c =
    program_deep c.args.bytes.now c.args.tokens.now c.requires.split (subst IsProgram c.requires.same c.requires.spelled)
    (ap program_at (sym (c.new-cursor.ensures ∙ c.requires.same)) ∙ c.program_tree.ensures.deep (c.in-Err-TooDeep.is ∙ ap Err c.in-Err-TooDeep.field-0-is))
