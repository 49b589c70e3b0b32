use Rattle.std.proofs.Common.{◌≡◌, ◌+◌, ◌≤◌, min, drop}
use Rattle.base_values.specs.declared.limits.TheConstants.{MOST_COST}
use Rattle.smv_model.specs.ModuleCosts.{items_cost}
use Rattle.smv_model.proofs.count.items_cost.Given as goal

abbrev pub invariant-loop-numbered : goal.invariant-loop-numbered
invariant-loop-numbered l = (min (l.total + items_cost (drop l.numbered-index l.items)) (MOST_COST + 1) ≡ min (items_cost l.items) (MOST_COST + 1)) × (l.total ≤ MOST_COST + 1)
