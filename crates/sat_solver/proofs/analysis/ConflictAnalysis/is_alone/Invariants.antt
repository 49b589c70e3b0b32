use Rattle.std.proofs.Common.{◌≡◌, ◌≤◌}
use Rattle.sat_solver.specs.Trail.{below}
use Rattle.sat_solver.specs.Analysis.{is_alone}
use Rattle.sat_solver.proofs.analysis.ConflictAnalysis.is_alone.Given as goal

-- the entries that are left tell
abbrev pub invariant-loop-i : goal.invariant-loop-i
invariant-loop-i l = record {
  within : l.i ≤ l.place;
  rest : is_alone l.self.marks (below l.trail.entries l.i) ≡ is_alone l.self.marks (below l.trail.entries l.place);
}

abbrev pub decreases-loop-i : goal.decreases-loop-i
decreases-loop-i l = l.i
