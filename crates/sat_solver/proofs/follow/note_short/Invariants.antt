use Rattle.std.proofs.Common.{◌≡◌}
use Rattle.sat_solver.proofs.follow.note_short.Given as goal

abbrev pub invariant-loop-i : goal.invariant-loop-i
invariant-loop-i g l = l.trail ≡ l.initial.trail
