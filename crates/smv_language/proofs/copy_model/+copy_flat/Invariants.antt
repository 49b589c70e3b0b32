-- What is made so far has the trees of what was read so far.
use Rattle.std.proofs.Common.{◌≡◌, map, take}
use Rattle.smv_language.specs.ExpressionTree.{tree_of, branch_trees}
use Rattle.smv_language.proofs.copy_model.+copy_flat.Given as goal

abbrev pub invariant-copy_expressions-loop-member : goal.invariant-copy_expressions-loop-member
invariant-copy_expressions-loop-member l = map tree_of l.made ≡ map tree_of (take l.member-index l.members)

abbrev pub invariant-copy_branches-loop-condition : goal.invariant-copy_branches-loop-condition
invariant-copy_branches-loop-condition l = map branch_trees l.made ≡ map branch_trees (take l.condition-index l.branches)
