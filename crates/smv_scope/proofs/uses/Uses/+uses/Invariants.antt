-- What is seen so far, with what is left, is what all of it gives.
use Rattle.std.proofs.Common.{◌≡◌, drop}
use Rattle.smv_language.specs.ExpressionTree.{trees_of, branches_of}
use Rattle.smv_scope.specs.SeenNames.{seen_in, seen_after_trees, seen_after_branches}
use Rattle.smv_scope.proofs.uses.Uses.+uses.Given as goal

abbrev pub invariant-add_members-loop-member : goal.invariant-add_members-loop-member
invariant-add_members-loop-member l =
    seen_after_trees l.next (trees_of (drop l.member-index l.members)) (seen_in l.self) ≡ seen_after_trees l.next (trees_of l.members) (seen_in l.initial.self)

abbrev pub invariant-add_branches-loop-condition : goal.invariant-add_branches-loop-condition
invariant-add_branches-loop-condition l =
    seen_after_branches l.next (branches_of (drop l.condition-index l.branches)) (seen_in l.self) ≡ seen_after_branches l.next (branches_of l.branches) (seen_in l.initial.self)
