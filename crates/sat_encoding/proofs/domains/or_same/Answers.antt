use Rattle.sat_encoding.proofs.LoopLaws.{or_same_is}
use Rattle.sat_encoding.proofs.domains.or_same.Goals as goal

pub returns : goal.returns
returns c = or_same_is c.args.g.now c.same.new.g c.either.new.g _ c.args.found c.in_ok-here.here c.in_ok-made.made c.in_ok-here.ensures c.in_ok-made.ensures
