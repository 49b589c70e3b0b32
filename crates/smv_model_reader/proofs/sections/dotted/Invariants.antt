use Rattle.std.proofs.Common.{◌≡◌, ◌-◌}
use Rattle.smv_expression_reader.specs.SecondPass.{has_next, each_at, with_front}
use Rattle.smv_model_reader.specs.ProgramParts.{dotted_at, next_name}
use Rattle.smv_model_reader.proofs.sections.dotted.Given as goal
use Rattle.smv_expression_reader.specs.declared.mark.Mark.TheVariants as mark

abbrev pub invariant-loop-round : goal.invariant-loop-round
invariant-loop-round l = dotted_at l.fn.cursor ≡ with_front l.parts (each_at (has_next mark.Dot) next_name (l.most - l.round) l.cursor)
