use Rattle.std.proofs.Common.{◌≡◌, ◌-◌}
use Rattle.smv_expression_reader.specs.SecondPass.{has_next, each_at, with_front}
use Rattle.smv_model_reader.specs.ProgramParts.{members_at, next_member}
use Rattle.smv_model_reader.proofs.sections.members.Given as goal
use Rattle.smv_expression_reader.specs.declared.mark.Mark.TheVariants as mark

abbrev pub invariant-loop-round : goal.invariant-loop-round
invariant-loop-round l = members_at l.fn.cursor ≡ with_front l.members (each_at (has_next mark.Comma) next_member (l.most - l.round) l.cursor)
