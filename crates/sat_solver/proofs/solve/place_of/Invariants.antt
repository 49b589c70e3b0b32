use Rattle.std.proofs.Common.{◌≢◌, ◌≤◌, ◌-◌, All, length, take}
use Rattle.sat_solver.specs.declared.trail.TrailEntry.{TrailEntry}
use Rattle.sat_solver.proofs.solve.place_of.Given as goal

-- the literal is not among those so far
abbrev pub invariant-loop-i : goal.invariant-loop-i
invariant-loop-i l = record {
  within : l.i ≤ length l.trail.entries;
  elsewhere : All (λ (e : TrailEntry). e.lit ≢ l.lit) (take l.i l.trail.entries);
}

abbrev pub decreases-loop-i : goal.decreases-loop-i
decreases-loop-i l = length l.trail.entries - l.i
