use Rattle.std.proofs.Common.{◌≡◌, ◌≤◌, ◌-◌, length, take}
use Rattle.sat_solver.specs.Trail.{lits_of}
use Rattle.sat_solver.proofs.follow.follow.Given as goal

-- the store has made true the literals so far
abbrev pub invariant-loop-i : goal.invariant-loop-i
invariant-loop-i g l = record {
  same : l.trail ≡ l.initial.trail;
  clauses : (g.S.Store.held l.store).clauses ≡ (g.S.Store.held l.initial.store).clauses;
  vars : (g.S.Store.held l.store).vars ≡ (g.S.Store.held l.initial.store).vars;
  within : l.i ≤ length l.trail.entries;
  begins : (g.S.Store.held l.store).trail ≡ lits_of (take l.i l.trail.entries);
}

abbrev pub decreases-loop-i : goal.decreases-loop-i
decreases-loop-i g l = length l.trail.entries - l.i
