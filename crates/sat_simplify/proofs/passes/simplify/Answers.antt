use Rattle.sat_simplify.proofs.BaseLaws.{becomes_all}
use Rattle.sat_simplify.proofs.passes.simplify.Goals as goal

pub loop-round-preserved : goal.loop-round-preserved
loop-round-preserved c = becomes_all c.args.base.now c.loop-round.base c.one_round.new.base c.loop-round.invariant c.in_ok-changed.ensures

pub returns-then-not-changed : goal.returns-then-not-changed
returns-then-not-changed c = becomes_all c.args.base.now c.loop-round.base c.one_round.new.base c.loop-round.invariant c.in_ok-changed.ensures
