use Rattle.std.proofs.Common.{◌≤◌, ◌-◌, All, length, take}
use Rattle.sat_solver.specs.ClauseFindings.{IsTrueIn}
use Rattle.sat_solver.proofs.find.find.Given as goal

-- the clauses so far are true
abbrev pub invariant-loop-i : goal.invariant-loop-i
invariant-loop-i g l = record {
  within : l.i ≤ length (g.S.Store.held l.clauses).clauses;
  all_true : All (IsTrueIn l.assign) (take l.i (g.S.Store.held l.clauses).clauses);
}

abbrev pub decreases-loop-i : goal.decreases-loop-i
decreases-loop-i g l = length (g.S.Store.held l.clauses).clauses - l.i
