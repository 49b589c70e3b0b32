use Rattle.sat_encoding.proofs.BadLaws.{few_is}
use Rattle.sat_encoding.proofs.bad.few.Goals as goal
use Rattle.std.proofs.Common.{arith}

pub returns-in_ok-assert_true : goal.returns-in_ok-assert_true
returns-in_ok-assert_true c =
    few_is c.args.history.now c.args.size c.args.g.now c.at_most.new.g c.assert_true.new.self c.in_ok-few.few (omega arith) c.in_ok-few.ensures.exact c.in_ok-assert_true.ensures.ok
