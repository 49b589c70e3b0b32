use Rattle.sat_simplify.proofs.BaseLaws.{becomes_all}
use Rattle.sat_simplify.proofs.passes.try_one.Goals as goal

pub returns-in_ok-put_from : goal.returns-in_ok-put_from
returns-in_ok-put_from c = becomes_all c.args.base.now c.take_touched.new.self c.eliminate.new.self c.take_touched.ensures c.in_ok-is_gone.ensures

pub returns-else-is_gone : goal.returns-else-is_gone
returns-else-is_gone c = becomes_all c.args.base.now c.take_touched.new.self c.eliminate.new.self c.take_touched.ensures c.in_ok-is_gone.ensures
