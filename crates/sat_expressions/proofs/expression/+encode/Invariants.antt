use Rattle.std.proofs.Common.{◌≡◌, ◌+◌, ◌*◌, drop, length}
use Rattle.smv_language.specs.Language.{trees_of, branches_of, trees_map, branches_map, leaf_of}
use Rattle.sat_expressions.specs.Parts.{asked_of, BuildsSome}
use Rattle.sat_expressions.specs.Branches.{BuildsFirst}
use Rattle.sat_expressions.proofs.Sizes.{nodes, members_nodes, branches_nodes}
use Rattle.sat_expressions.proofs.expression.+encode.Given as goal

abbrev pub decreases-expression : goal.decreases-expression
decreases-expression l = 2 * nodes l.e.now

abbrev pub decreases-some_member : goal.decreases-some_member
decreases-some_member l = 2 * members_nodes l.members.now + 1

abbrev pub decreases-each_branch : goal.decreases-each_branch
decreases-each_branch l = 2 * branches_nodes l.branches.now + 1

abbrev pub invariant-some_member-loop-member : goal.invariant-some_member-loop-member
invariant-some_member-loop-member l =
    BuildsSome l.names (asked_of l.asked) (trees_map leaf_of (trees_of l.members)) (trees_map leaf_of (trees_of (drop l.member-index l.members))) l.fn.g l.g l.found

abbrev pub invariant-each_branch-loop-condition : goal.invariant-each_branch-loop-condition
invariant-each_branch-loop-condition l =
    BuildsFirst l.names (asked_of l.asked) (branches_map leaf_of (branches_of l.branches)) (branches_map leaf_of (branches_of (drop l.condition-index l.branches))) l.fn.g l.g l.parts
    × (l.left + l.condition-index ≡ length l.branches)
