use Rattle.std.proofs.Common.{◌≡◌, ◌-◌, map}
use Rattle.smv_language.specs.ProgramTree.{module_tree}
use Rattle.smv_expression_reader.specs.SecondPass.{has_next, each_at, with_front}
use Rattle.smv_model_reader.specs.ProgramParts.{next_module, program_at}
use Rattle.smv_model_reader.proofs.sections.modules.Given as goal
use Rattle.smv_expression_reader.specs.declared.mark.Mark.TheVariants as mark

abbrev pub invariant-loop-round : goal.invariant-loop-round
invariant-loop-round l = program_at l.fn.cursor ≡ with_front (map module_tree l.list) (each_at (has_next mark.Module) next_module (l.most - l.round) l.cursor)
