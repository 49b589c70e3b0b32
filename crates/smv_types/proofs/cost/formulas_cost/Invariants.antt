use Rattle.std.proofs.Common.{◌≡◌, ◌+◌, ◌≤◌, min, drop}
use Rattle.base_values.specs.declared.limits.TheConstants.{MOST_COST}
use Rattle.smv_types.specs.Sizes.{formulas_cost}
use Rattle.smv_types.proofs.cost.formulas_cost.Given as goal

abbrev pub invariant-loop-formula : goal.invariant-loop-formula
invariant-loop-formula l = (min (l.total + formulas_cost (drop l.formula-index l.formulas)) (MOST_COST + 1) ≡ min (formulas_cost l.formulas) (MOST_COST + 1)) × (l.total ≤ MOST_COST + 1)
