use Rattle.cut_frames.specs.Levels.{AreFilledBelow}
use Rattle.cut_frames.proofs.advance.find_fixed.Given as goal

abbrev pub invariant-frames : goal.invariant-frames
invariant-frames l = AreFilledBelow l.frames l.i
