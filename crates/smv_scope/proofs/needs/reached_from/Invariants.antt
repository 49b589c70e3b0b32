-- All that is marked or waits is reached, and what is not yet marked waits, or comes from what waits. Each
-- turn leaves less to look at.
use Rattle.std.proofs.Common.{length}
use Rattle.smv_scope.specs.Links.{graph_of, IsSpreading}
use Rattle.smv_scope.specs.Spreads.{spread_of}
use Rattle.smv_scope.specs.WorkLeft.{left_to_spread}
use Rattle.smv_scope.proofs.needs.reached_from.Given as goal

abbrev pub invariant-loop-definition : goal.invariant-loop-definition
invariant-loop-definition l = IsSpreading (graph_of l.links) l.starts (length l.links.of.items) (spread_of l.spread)

abbrev pub decreases-loop-definition : goal.decreases-loop-definition
decreases-loop-definition l = left_to_spread (graph_of l.links) (spread_of l.spread)
