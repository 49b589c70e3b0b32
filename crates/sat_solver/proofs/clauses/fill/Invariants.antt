use Rattle.std.proofs.Common.{◌≡◌, ◌≤◌, ◌-◌, ◌++◌, take, length}
use Rattle.sat_solver.proofs.clauses.fill.Given as goal

-- the clauses so far are in the store
abbrev pub invariant-loop-i : goal.invariant-loop-i
invariant-loop-i g l = record {
  within : l.i ≤ length l.clauses;
  clauses : (g.S.Store.held l.store).clauses ≡ (g.S.Store.held l.initial.store).clauses ++ take l.i l.clauses;
  vars : (g.S.Store.held l.store).vars ≡ (g.S.Store.held l.initial.store).vars;
  trail : (g.S.Store.held l.store).trail ≡ (g.S.Store.held l.initial.store).trail;
}

abbrev pub decreases-loop-i : goal.decreases-loop-i
decreases-loop-i g l = length l.clauses - l.i
