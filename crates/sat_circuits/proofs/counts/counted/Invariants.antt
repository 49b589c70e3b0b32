use Rattle.std.proofs.Common.{[], drop}
use Rattle.std.specs.Prelude.{zip}
use Rattle.sat_circuits.specs.Counts.{count_gate}
use Rattle.sat_circuits.proofs.WordMeans.{MapTurns}
use Rattle.sat_circuits.proofs.counts.counted.Given as goal
use Rattle.sat_circuits.proofs.QuotientMeans.{Choosable}

abbrev pub invariant-loop-i : goal.invariant-loop-i
invariant-loop-i l = MapTurns (count_gate l.fn.l) 2 (Choosable l.fn.l) (zip l.fn.counters (drop 1 l.fn.counters)) [] l.fn.g l.i l.next l.g
