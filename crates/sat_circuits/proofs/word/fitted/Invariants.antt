use Rattle.std.proofs.Common.{◌≡◌}
use Rattle.sat_circuits.specs.Words.{fit}
use Rattle.sat_circuits.proofs.word.fitted.Given as goal

abbrev pub invariant-loop-i : goal.invariant-loop-i
invariant-loop-i l = l.fitted ≡ fit l.i l.word
