use Rattle.std.proofs.Common.{◌-◌, take, length}
use Rattle.sat_circuits.specs.Gates.{and_gate}
use Rattle.sat_circuits.specs.Words.{zeros}
use Rattle.sat_circuits.proofs.WordMeans.{MapTurns}
use Rattle.sat_circuits.proofs.ProductMeans.{Rowable}
use Rattle.sat_circuits.proofs.products.shifted_row.Given as goal

abbrev pub invariant-loop-i : goal.invariant-loop-i
invariant-loop-i l = MapTurns (and_gate l.fn.b) 1 (Rowable l.fn.b) (take (length l.fn.a - l.fn.shift) l.fn.a) (zeros l.fn.shift) l.fn.g l.i l.row l.g
