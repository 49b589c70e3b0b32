use Rattle.sat_simplify.proofs.BaseLaws.{becomes_all}
use Rattle.sat_simplify.proofs.passes.one_round.Goals as goal

pub returns : goal.returns
returns c =
    becomes_all c.args.base.now c.eliminate_all.new.base c.propagate_all.new.base (becomes_all c.args.base.now c.subsume_all.new.base c.eliminate_all.new.base c.in_ok-subsume_all.ensures c.in_ok-changed.ensures) c.in_ok-propagate_all.ensures
