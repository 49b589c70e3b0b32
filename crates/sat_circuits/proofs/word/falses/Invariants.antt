use Rattle.std.proofs.Common.{◌≡◌}
use Rattle.sat_circuits.specs.Words.{zeros}
use Rattle.sat_circuits.proofs.word.falses.Given as goal

abbrev pub invariant-loop : goal.invariant-loop
invariant-loop l = l.word ≡ zeros l.counter
