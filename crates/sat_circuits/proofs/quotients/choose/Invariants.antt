use Rattle.std.proofs.Common.{[]}
use Rattle.std.specs.Prelude.{zip}
use Rattle.sat_circuits.proofs.WordMeans.{MapTurns}
use Rattle.sat_circuits.proofs.QuotientMeans.{Choosable, choice}
use Rattle.sat_circuits.proofs.quotients.choose.Given as goal

abbrev pub invariant-loop-i : goal.invariant-loop-i
invariant-loop-i l = MapTurns (choice l.c) 1 (Choosable l.c) (zip l.xs l.ys) [] l.fn.g l.i l.chosen l.g
