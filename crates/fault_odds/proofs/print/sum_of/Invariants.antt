use Rattle.std.proofs.Common.{◌≡◌, ◌+◌, ◌*◌, ◌≤◌, map, drop}
use Rattle.fault_odds.specs.Units.{one_in_units}
use Rattle.fault_odds.specs.Bounds.{units_in, bound_sum}
use Rattle.fault_odds.proofs.print.sum_of.Given as goal

abbrev pub invariant-loop-set : goal.invariant-loop-set
invariant-loop-set l = (l.sum ≤ l.set-index * one_in_units) × (l.sum + bound_sum (map (units_in l.odds) (drop l.set-index l.sets)) ≡ bound_sum (map (units_in l.odds) l.sets))
