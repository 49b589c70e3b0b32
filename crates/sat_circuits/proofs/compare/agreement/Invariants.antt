use Rattle.std.proofs.Common.{◌+◌, ◌*◌, length}
use Rattle.std.specs.Prelude.{zip}
use Rattle.sat_circuits.specs.Circuit.{fold_gates}
use Rattle.sat_circuits.proofs.Turns.{Turns}
use Rattle.sat_circuits.specs.Sums.{equal_step}
use Rattle.sat_circuits.proofs.TestMeans.{EqualShape}
use Rattle.sat_circuits.proofs.compare.agreement.Given as goal

abbrev pub invariant-loop-i : goal.invariant-loop-i
invariant-loop-i l =
    Turns equal_step (EqualShape (l.fn.g.free + 2 * length l.a)) (zip l.a l.b) l.fn.g (fold_gates equal_step (zip l.a l.b) l.fn.truth l.fn.g) l.i l.agree l.g
