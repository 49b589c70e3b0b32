-- Of the definitions so far it is told.
use Rattle.std.proofs.Common.{true}
use Rattle.smv_scope.specs.Links.{graph_of, AreCircles}
use Rattle.smv_scope.proofs.circles.circles_in.Given as goal

abbrev pub invariant-loop-definition : goal.invariant-loop-definition
invariant-loop-definition l = AreCircles (graph_of l.links) l.definition true l.circles.items
