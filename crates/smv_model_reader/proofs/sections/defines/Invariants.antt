use Rattle.std.proofs.Common.{◌≡◌, ◌-◌, map}
use Rattle.smv_language.specs.ProgramTree.{define_tree}
use Rattle.smv_expression_reader.specs.SecondPass.{has_next, each_at, with_front}
use Rattle.smv_model_reader.specs.ProgramParts.{define_at, defines_at}
use Rattle.smv_model_reader.proofs.sections.defines.Given as goal
use Rattle.smv_expression_reader.specs.declared.mark.Mark.TheVariants as mark

abbrev pub invariant-loop-round : goal.invariant-loop-round
invariant-loop-round l = defines_at l.fn.cursor ≡ with_front (map define_tree l.list) (each_at (has_next mark.Name) define_at (l.most - l.round) l.cursor)
