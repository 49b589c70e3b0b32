-- What is in a component leads to all others there, and what was not put into one yet still waits. Each turn
-- leaves less to look at.
use Rattle.std.proofs.Common.{length}
use Rattle.smv_scope.specs.Links.{graph_of}
use Rattle.smv_scope.specs.Components.{joined_of, IsJoined, left_to_join}
use Rattle.smv_scope.proofs.circles.components_of.Given as goal

abbrev pub invariant-loop-member : goal.invariant-loop-member
invariant-loop-member l = IsJoined (graph_of l.links) (length l.links.of.items) (joined_of l.components)

abbrev pub decreases-loop-member : goal.decreases-loop-member
decreases-loop-member l = left_to_join (graph_of l.back) (joined_of l.components)
