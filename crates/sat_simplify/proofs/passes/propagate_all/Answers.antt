use Rattle.sat_simplify.proofs.BaseLaws.{becomes_all}
use Rattle.sat_simplify.proofs.passes.propagate_all.Goals as goal

pub loop-round-preserved : goal.loop-round-preserved
loop-round-preserved c =
    becomes_all c.args.base.now c.pop_unit.new.self c.propagate.new.self (becomes_all c.args.base.now c.loop-round.base c.pop_unit.new.self c.loop-round.invariant c.pop_unit.ensures) c.in_ok-propagate.ensures
