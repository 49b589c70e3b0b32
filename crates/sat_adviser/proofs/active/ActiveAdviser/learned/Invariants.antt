use Rattle.std.proofs.Common.{◌≡◌}
use Rattle.sat_adviser.proofs.active.ActiveAdviser.learned.Given as goal

abbrev pub invariant-loop-lit : goal.invariant-loop-lit
invariant-loop-lit l = l.self ≡ l.initial.self
