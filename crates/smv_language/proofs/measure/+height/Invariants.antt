use Rattle.std.proofs.Common.{◌≡◌, ◌≤◌, ◌+◌, ◌*◌, max, drop}
use Rattle.smv_language.specs.Tree.{size_of, trees_size, branches_size, trees_height, branches_height}
use Rattle.smv_language.specs.ExpressionTree.{tree_of, trees_of, branches_of}
use Rattle.smv_language.proofs.measure.+height.Given as goal

abbrev pub invariant-members_top-loop-member : goal.invariant-members_top-loop-member
invariant-members_top-loop-member l =
    (max l.top (trees_height (trees_of (drop l.member-index l.members))) ≡ trees_height (trees_of l.members))
    × (l.top + trees_size (trees_of (drop l.member-index l.members)) ≤ trees_size (trees_of l.members))

abbrev pub invariant-branches_top-loop-condition : goal.invariant-branches_top-loop-condition
invariant-branches_top-loop-condition l =
    (max l.top (branches_height (branches_of (drop l.condition-index l.branches))) ≡ branches_height (branches_of l.branches))
    × (l.top + branches_size (branches_of (drop l.condition-index l.branches)) ≤ branches_size (branches_of l.branches))

abbrev pub decreases-height : goal.decreases-height
decreases-height l = 2 * size_of (tree_of l.e.now)

abbrev pub decreases-members_top : goal.decreases-members_top
decreases-members_top l = 2 * trees_size (trees_of l.members.now) + 1

abbrev pub decreases-branches_top : goal.decreases-branches_top
decreases-branches_top l = 2 * branches_size (branches_of l.branches.now) + 1
