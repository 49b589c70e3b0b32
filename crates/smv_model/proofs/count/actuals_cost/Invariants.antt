use Rattle.std.proofs.Common.{◌≡◌, ◌+◌, ◌≤◌, min, drop}
use Rattle.base_values.specs.declared.limits.TheConstants.{MOST_COST}
use Rattle.smv_model.specs.ModuleCosts.{actuals_cost}
use Rattle.smv_model.proofs.count.actuals_cost.Given as goal

abbrev pub invariant-loop-actual : goal.invariant-loop-actual
invariant-loop-actual l = (min (l.total + actuals_cost (drop l.actual-index l.actuals)) (MOST_COST + 1) ≡ min (actuals_cost l.actuals) (MOST_COST + 1)) × (l.total ≤ MOST_COST + 1)
