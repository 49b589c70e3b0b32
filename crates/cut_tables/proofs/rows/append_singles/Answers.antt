use Rattle.std.proofs.Common.{arith}
use Rattle.cut_tables.proofs.RowLemmas.{single_on}
use Rattle.cut_tables.proofs.rows.append_singles.Goals as goal

pub loop-left-preserved : goal.loop-left-preserved
loop-left-preserved c = (
  omega (arith, c.loop-left.invariant.0),
  single_on c.args.faults c.loop-left.left c.loop-left.rows c.push.new.self _ c.in_ok-set.set c.loop-left-test.true c.loop-left.invariant.0 c.in_ok-push.ensures.ok c.in_ok-set.ensures c.loop-left.invariant.1,
)
