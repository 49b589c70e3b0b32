use Rattle.std.proofs.Common.{◌≤◌, ◌-◌, All, length, take}
use Rattle.sat_clauses.specs.Derivation.{IsUpTo}
use Rattle.sat_solver.proofs.solve.are_all_up_to.Given as goal

-- the clauses so far are in range
abbrev pub invariant-loop-i : goal.invariant-loop-i
invariant-loop-i l = record {
  within : l.i ≤ length l.clauses;
  in_range : All (All (IsUpTo l.vars)) (take l.i l.clauses);
}

abbrev pub decreases-loop-i : goal.decreases-loop-i
decreases-loop-i l = length l.clauses - l.i
