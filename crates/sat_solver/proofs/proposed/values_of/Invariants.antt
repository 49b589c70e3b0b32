use Rattle.std.proofs.Common.{◌≡◌, ◌-◌, ◌+◌, ◌≤◌, length}
use Rattle.sat_solver.proofs.proposed.values_of.Given as goal

-- there is a place for each variable
abbrev pub invariant-loop-var : goal.invariant-loop-var
invariant-loop-var l = record {
  positive : 1 ≤ l.var;
  within : l.var ≤ l.vars + 1;
  places : length l.values ≡ l.vars + 1;
}

abbrev pub decreases-loop-var : goal.decreases-loop-var
decreases-loop-var l = l.vars + 1 - l.var
