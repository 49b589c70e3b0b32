use Rattle.std.proofs.Common.{arith}
use Rattle.cut_frames.proofs.PushLemmas.{filled_more}
use Rattle.cut_frames.proofs.advance.find_fixed.Goals as goal

pub frames-preserved : goal.frames-preserved
frames-preserved c = filled_more c.args.frames.now c.frames.i c.frames.invariant (c.is_level_empty.ensures.filled c.if-is_level_empty.false)

pub returns-then-is_level_empty-clause-fixed : goal.returns-then-is_level_empty-clause-fixed
returns-then-is_level_empty-clause-fixed c = record { from_one = grind arith; within = c.frames-test.true; none = c.is_level_empty.ensures.empty c.if-is_level_empty.true }
