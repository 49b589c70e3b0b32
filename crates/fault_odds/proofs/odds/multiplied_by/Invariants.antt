-- the factors that are left give the product of all
use Rattle.std.proofs.Common.{◌≡◌, ◌≤◌, drop}
use Rattle.fault_odds.specs.Units.{one_in_units}
use Rattle.fault_odds.specs.Bounds.{multiplied, units_in}
use Rattle.fault_odds.proofs.odds.multiplied_by.Given as goal

abbrev pub invariant-loop-fault : goal.invariant-loop-fault
invariant-loop-fault l = (l.product ≤ one_in_units) × (multiplied l.product (units_in l.units (drop l.fault-index l.faults)) ≡ multiplied l.start (units_in l.units l.faults))
