use Rattle.std.proofs.Common.{sym}
use Rattle.cut_frames.proofs.ShrinkLemmas.{given_part}
use Rattle.cut_frames.proofs.shrink.assumed_first.Goals as goal

pub loop-lit-preserved : goal.loop-lit-preserved
loop-lit-preserved c = given_part _ c.loop-lit.all.items c.push_given.new.all.items c.lit-item.result c.args.history.now c.in_ok-push_given.ensures c.loop-lit.invariant (c.loop-lit.lit-index, c.loop-lit-test.true, sym c.lit-item.is)
