use Rattle.std.proofs.Common.{◌≡◌}
use Rattle.sat_solver.proofs.propagate.propagate.Given as goal

abbrev pub invariant-loop : goal.invariant-loop
invariant-loop g l = l.trail ≡ l.initial.trail
