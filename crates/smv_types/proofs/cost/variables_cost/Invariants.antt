use Rattle.std.proofs.Common.{◌≡◌, ◌+◌, ◌≤◌, min, drop}
use Rattle.base_values.specs.declared.limits.TheConstants.{MOST_COST}
use Rattle.smv_types.specs.Sizes.{variables_cost}
use Rattle.smv_types.proofs.cost.variables_cost.Given as goal

abbrev pub invariant-loop-variable : goal.invariant-loop-variable
invariant-loop-variable l = (min (l.total + variables_cost (drop l.variable-index l.variables)) (MOST_COST + 1) ≡ min (variables_cost l.variables) (MOST_COST + 1)) × (l.total ≤ MOST_COST + 1)
