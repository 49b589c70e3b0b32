use Rattle.std.proofs.Common.{arith, ◌<◌, ◌∙◌, sym, length}
use Rattle.fault_weave.proofs.LookupLaws.{affected_here, affected_later}
use Rattle.fault_weave.proofs.lookup.any_affects.Goals as goal

pub returns-then-affects : goal.returns-then-affects
returns-then-affects c =
    let below : c.loop-extension.extension-index < length c.args.extensions.now = omega arith in
    affected_here c.args.extensions.now c.args.owner.now c.args.x.now c.loop-extension.extension-index c.extension-item.result below c.extension-item.is (sym c.affects.ensures ∙ c.if-affects.true) c.loop-extension.invariant

pub loop-extension-preserved : goal.loop-extension-preserved
loop-extension-preserved c =
    let below : c.loop-extension.extension-index < length c.args.extensions.now = omega arith in
    affected_later c.args.extensions.now c.args.owner.now c.args.x.now c.loop-extension.extension-index c.extension-item.result below c.extension-item.is (sym c.affects.ensures ∙ c.if-affects.false) c.loop-extension.invariant
