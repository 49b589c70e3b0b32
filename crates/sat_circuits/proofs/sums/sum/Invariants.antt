use Rattle.std.proofs.Common.{◌+◌, ◌*◌, length, []}
use Rattle.std.specs.Prelude.{zip}
use Rattle.sat_circuits.specs.Circuit.{fold_gates}
use Rattle.sat_circuits.proofs.Turns.{Turns}
use Rattle.sat_circuits.specs.Sums.{sum_step}
use Rattle.sat_circuits.proofs.SumMeans.{SumShape}
use Rattle.sat_circuits.proofs.sums.sum.Given as goal

abbrev pub invariant-loop-i : goal.invariant-loop-i
invariant-loop-i l =
    Turns sum_step (SumShape (length l.a) (l.fn.g.free + 5 * length l.a)) (zip l.a l.b) l.fn.g (fold_gates sum_step (zip l.a l.b) ([], l.fn.carry) l.fn.g) l.i (l.sum, l.carry) l.g
