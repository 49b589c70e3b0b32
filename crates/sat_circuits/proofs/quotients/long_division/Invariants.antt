use Rattle.std.proofs.Common.{◌+◌, ◌-◌, ◌*◌, [], suc, length, reverse}
use Rattle.sat_circuits.specs.Circuit.{fold_gates}
use Rattle.sat_circuits.proofs.Turns.{Turns}
use Rattle.sat_circuits.specs.Words.{zeros}
use Rattle.sat_circuits.specs.Quotients.{quotient_step}
use Rattle.sat_circuits.proofs.QuotientMeans.{DivideShape, divide_cost}
use Rattle.sat_circuits.proofs.quotients.long_division.Given as goal

abbrev pub invariant-loop-i : goal.invariant-loop-i
invariant-loop-i l =
    Turns (quotient_step l.fn.divisor) (DivideShape (length l.fn.divisor - 2) (length l.fn.dividend) (l.fn.g.free + divide_cost (suc (suc (length l.fn.divisor - 2))) * length l.fn.dividend) l.fn.divisor)
    (reverse l.fn.dividend) l.fn.g (fold_gates (quotient_step l.fn.divisor) (reverse l.fn.dividend) ([], zeros (length l.fn.divisor)) l.fn.g) l.i (l.quotient, l.rest) l.g
