use Rattle.std.proofs.Common.{◌≡◌, ◌+◌, ◌*◌, drop}
use Rattle.smv_language.specs.Tree.{size_of, trees_size, branches_size}
use Rattle.smv_language.specs.ExpressionTree.{tree_of, trees_of, branches_of}
use Rattle.smv_language.proofs.measure.+size.Given as goal

abbrev pub invariant-members_total-loop-member : goal.invariant-members_total-loop-member
invariant-members_total-loop-member l = l.total + trees_size (trees_of (drop l.member-index l.members)) ≡ trees_size (trees_of l.members)

abbrev pub invariant-branches_total-loop-condition : goal.invariant-branches_total-loop-condition
invariant-branches_total-loop-condition l = l.total + branches_size (branches_of (drop l.condition-index l.branches)) ≡ branches_size (branches_of l.branches)

abbrev pub decreases-size : goal.decreases-size
decreases-size l = 2 * size_of (tree_of l.e.now)

abbrev pub decreases-members_total : goal.decreases-members_total
decreases-members_total l = 2 * trees_size (trees_of l.members.now) + 1

abbrev pub decreases-branches_total : goal.decreases-branches_total
decreases-branches_total l = 2 * branches_size (branches_of l.branches.now) + 1
