use Rattle.std.proofs.Common.{All}
use Rattle.cut_frames.specs.KnownSteps.{IsSeen}
use Rattle.cut_frames.specs.Levels.{frames_of, IsTightened, AreLevelsPushed}
use Rattle.cut_frames.specs.OwnVariables.{IsKept}
use Rattle.cut_frames.proofs.advance.push_all.Given as goal

abbrev pub invariant-frames : goal.invariant-frames
invariant-frames g l = record {
  tightened : IsTightened l.problem.system.now l.initial.frames l.frames;
  pushed : AreLevelsPushed l.problem.system.now l.frames l.i;
  seen : All (IsSeen l.problem.system.now) l.seen.items;
  kept : IsKept l.problem.system.now l.problem.bad.now (frames_of l.frames) l.kept;
}
