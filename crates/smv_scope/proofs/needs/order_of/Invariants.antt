-- The numbers in the order are those that are ended, each after what it is linked to or led to by it, and doing
-- what is left orders all. Each task leaves less to do.
use Rattle.std.proofs.Common.{length}
use Rattle.smv_scope.specs.Links.{graph_of}
use Rattle.smv_scope.specs.DefinitionOrder.{lay_of, IsLaying}
use Rattle.smv_scope.specs.Components.{IsFinishing}
use Rattle.smv_scope.specs.WorkLeft.{left_to_lay}
use Rattle.smv_scope.proofs.needs.order_of.Given as goal

abbrev pub invariant-loop-task : goal.invariant-loop-task
invariant-loop-task l = record {
  laying : IsLaying (graph_of l.links) (length l.links.of.items) (lay_of l.laying);
  finishing : IsFinishing (graph_of l.links) (length l.links.of.items) (lay_of l.laying);
}

abbrev pub decreases-loop-task : goal.decreases-loop-task
decreases-loop-task l = left_to_lay (graph_of l.links) (lay_of l.laying)
