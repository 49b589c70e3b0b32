-- What is made so far is what was read so far with its names resolved, and names what is there.
use Rattle.std.proofs.Common.{◌≡◌, true, map, take}
use Rattle.std.specs.List.{list_all}
use Rattle.smv_flat.specs.Shape.{shape, branch_shapes}
use Rattle.smv_scope.specs.ClosedModels.{is_closed, is_branch_closed}
use Rattle.smv_flat.specs.ResolverOf.{leaf_in, told_tree, asked_tree, told_branch, asked_branch}
use Rattle.smv_flat.proofs.resolve.+resolve.Given as goal

abbrev pub invariant-resolve_members-loop-member : goal.invariant-resolve_members-loop-member
invariant-resolve_members-loop-member l =
    (map shape l.made ≡ map shape (take l.member-index l.members)) × (list_all (is_closed l.source.bounds) l.made ≡ true)
    × (map told_tree l.made ≡ map (asked_tree (leaf_in l.scope l.source.spot)) (take l.member-index l.members))

abbrev pub invariant-resolve_branches-loop-condition : goal.invariant-resolve_branches-loop-condition
invariant-resolve_branches-loop-condition l =
    (map branch_shapes l.made ≡ map branch_shapes (take l.condition-index l.branches)) × (list_all (is_branch_closed l.source.bounds) l.made ≡ true)
    × (map told_branch l.made ≡ map (asked_branch (leaf_in l.scope l.source.spot)) (take l.condition-index l.branches))
