use Rattle.sat_simplify.proofs.BaseLaws.{becomes_covered}
use Rattle.sat_simplify.proofs.base.Base.cover_from.Goals as goal

pub returns : goal.returns
returns c = becomes_covered c.args.self.now c.cover.new.self c.args.lit c.in-Some.clause c.args.i (rw c.in-Some.is at c.in_ok-clause.ensures) c.in_ok-cover.ensures
