use Rattle.std.proofs.Common.{◌≡◌, ◌-◌, map}
use Rattle.smv_language.specs.ExpressionTree.{tree_of}
use Rattle.smv_expression_reader.specs.SecondPass.{with_front, some_at, each_at, goes_on, expr_at, next_expr}
use Rattle.smv_expression_reader.proofs.list.joined_trees.Given as goal

abbrev pub invariant-loop-round : goal.invariant-loop-round
invariant-loop-round l = some_at goes_on expr_at next_expr l.fn.cursor ≡ with_front (map tree_of l.trees) (each_at goes_on next_expr (l.most - l.round) l.cursor)
