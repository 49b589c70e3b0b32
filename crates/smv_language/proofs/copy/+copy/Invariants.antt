use Rattle.std.proofs.Common.{◌≡◌, map, take}
use Rattle.smv_language.specs.ExpressionTree.{tree_of, branch_trees}
use Rattle.smv_language.proofs.copy.+copy.Given as goal

abbrev pub invariant-copy_expressions-loop-expression : goal.invariant-copy_expressions-loop-expression
invariant-copy_expressions-loop-expression l = map tree_of l.made ≡ map tree_of (take l.expression-index l.expressions)

abbrev pub invariant-copy_branches-loop-condition : goal.invariant-copy_branches-loop-condition
invariant-copy_branches-loop-condition l = map branch_trees l.made ≡ map branch_trees (take l.condition-index l.branches)
