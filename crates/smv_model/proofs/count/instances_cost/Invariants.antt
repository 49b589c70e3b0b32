use Rattle.std.proofs.Common.{◌≡◌, ◌+◌, ◌≤◌, min, drop}
use Rattle.base_values.specs.declared.limits.TheConstants.{MOST_COST}
use Rattle.smv_model.specs.ModuleCosts.{spots_cost}
use Rattle.smv_model.proofs.count.instances_cost.Given as goal

abbrev pub invariant-loop-spot : goal.invariant-loop-spot
invariant-loop-spot l = (min (l.total + spots_cost l.costs (drop l.spot-index l.spots)) (MOST_COST + 1) ≡ min (spots_cost l.costs l.spots) (MOST_COST + 1)) × (l.total ≤ MOST_COST + 1)
