use Rattle.std.proofs.Common.{◌≡◌, ◌-◌, map}
use Rattle.smv_language.specs.ExpressionTree.{tree_of}
use Rattle.smv_expression_reader.specs.SecondPass.{has_next, next_expr, each_at, with_front}
use Rattle.smv_model_reader.specs.ProgramParts.{commas_at}
use Rattle.smv_model_reader.proofs.sections.actuals.Given as goal
use Rattle.smv_expression_reader.specs.declared.mark.Mark.TheVariants as mark

abbrev pub invariant-loop-round : goal.invariant-loop-round
invariant-loop-round l = commas_at l.fn.cursor ≡ with_front (map tree_of l.actuals) (each_at (has_next mark.Comma) next_expr (l.most - l.round) l.cursor)
