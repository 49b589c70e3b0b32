use Rattle.std.proofs.Common.{◌≡◌, ◌<◌, ◌^◌, ◌++◌}
use Rattle.sat_circuits.specs.Numbers.{digits_from, number_word}
use Rattle.sat_circuits.proofs.constants.number_word.Given as goal

abbrev pub invariant-loop-rest : goal.invariant-loop-rest
invariant-loop-rest l = record {
  built : number_word l.fn.n ≡ l.word ++ digits_from 64 l.rest l.negative;
  small : l.rest < 2 ^ 63;
}

abbrev pub decreases-loop-rest : goal.decreases-loop-rest
decreases-loop-rest l = l.rest
