use Rattle.std.proofs.Common.{◌≡◌}
use Rattle.sat_solver.proofs.analysis.ConflictAnalysis.into_learned.Given as goal

-- the numbers so far are the hints
abbrev pub invariant-loop-number : goal.invariant-loop-number
invariant-loop-number l = l.hints ≡ l.yielded
