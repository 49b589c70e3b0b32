use Rattle.std.proofs.Common.{◌≡◌, ◌-◌, length, subst}
use Rattle.cut_frames.specs.FramesRecord.{FramesValue}
use Rattle.cut_frames.specs.Levels.{frames_of}
use Rattle.cut_frames.specs.FramesByNumber.{AreNumbered}
use Rattle.cut_frames.proofs.Framing.{numbered}
use Rattle.cut_frames.proofs.LevelLaws.{last_is}
use Rattle.cut_frames.proofs.frames.Frames.frontier.Goals as goal

pub returns-clause-value : goal.returns-clause-value
returns-clause-value c = subst (λ (v : FramesValue). c.self.inside.levels.last ≡ length v.frames - 1) c.self.view_is (last_is c.self.inside.levels)

pub returns-clause-numbered : goal.returns-clause-numbered
returns-clause-numbered c =
    subst (λ (v : FramesValue). AreNumbered v.system v.frames) c.self.view_is (numbered c.self.inside.system (frames_of c.self.inside.levels) c.self.invariant.levelled.framed)
