use Rattle.std.proofs.Common.{◌≡◌, ◌≤◌, ◌-◌, [], length}
use Rattle.sat_solver.specs.LivingClauses.{IsAlive}
use Rattle.sat_solver.proofs.alive.copied.Given as goal

-- of the clauses so far those stay that are alive
abbrev pub invariant-loop-place : goal.invariant-loop-place
invariant-loop-place l = record {
  within : l.place ≤ length l.store.clauses;
  so_far : IsAlive l.store.clauses l.marks l.place l.alive.store.clauses l.alive.marks.items;
  vars : l.alive.store.vars ≡ l.store.vars;
  trail : l.alive.store.trail ≡ [];
}

abbrev pub decreases-loop-place : goal.decreases-loop-place
decreases-loop-place l = l.count - l.place
