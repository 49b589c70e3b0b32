use Rattle.std.proofs.Common.{◌+◌, ◌*◌, length}
use Rattle.sat_circuits.specs.Circuit.{fold_gates}
use Rattle.sat_circuits.proofs.Turns.{Turns}
use Rattle.sat_circuits.specs.Words.{zeros}
use Rattle.sat_circuits.specs.Products.{product_step}
use Rattle.sat_circuits.proofs.ProductMeans.{ProductShape}
use Rattle.sat_circuits.proofs.products.product.Given as goal

abbrev pub invariant-loop-i : goal.invariant-loop-i
invariant-loop-i l =
    Turns (product_step l.fn.a) (ProductShape (length l.fn.a) (l.fn.g.free + 6 * length l.fn.a * length l.fn.a) l.fn.a) l.fn.b l.fn.g (fold_gates (product_step l.fn.a) l.fn.b (0, zeros (length l.fn.a)) l.fn.g) l.i (l.i, l.product) l.g
