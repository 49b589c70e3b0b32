-- One fault more is one part more of the whole.
use Rattle.std.proofs.Common.{◌≡◌, arith}
use Rattle.smv_language.specs.ModelTree.{flat_tree}
use Rattle.fault_orders.specs.Stage.{with_set}
use Rattle.fault_orders.proofs.Parts.{part_more}
use Rattle.fault_orders.proofs.expression.with_set.Goals as goal

pub loop-k-preserved : goal.loop-k-preserved
loop-k-preserved c =
    let number : c.from.result ≡ c.loop-k.k = omega arith in
    part_more c.args.bit c.args.faults c.loop-k.k c.from.result c.args.set.now c.has_number.result (flat_tree c.loop-k.made) (flat_tree c.in_ok-part.part) (flat_tree c.in_ok-made-2.made)
    (with_set c.args.bit 1 c.args.faults c.args.set.now (flat_tree c.args.top.now)) c.loop-k-test.true number c.has_number.ensures c.in_ok-part.ensures c.in_ok-made-2.ensures c.loop-k.invariant
