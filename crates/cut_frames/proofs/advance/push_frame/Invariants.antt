use Rattle.std.specs.Prelude.{All}
use Rattle.cut_frames.specs.FrameLists.{frame_at}
use Rattle.cut_frames.specs.KnownSteps.{IsShown}
use Rattle.cut_frames.specs.Levels.{frames_of, IsPushedFrom}
use Rattle.cut_frames.specs.OwnVariables.{IsKept}
use Rattle.cut_frames.proofs.PushLemmas.{ArePlacesPushed}
use Rattle.cut_frames.proofs.advance.push_frame.Given as goal

abbrev pub invariant-clauses : goal.invariant-clauses
invariant-clauses g l = record {
  frames : IsPushedFrom l.problem.system.now l.initial.frames l.frames l.i;
  pushed : ArePlacesPushed l.problem.system.now l.frames l.i l.k;
  seen : All (IsShown l.problem.system.now (frame_at (frames_of l.initial.frames) l.i) l.i) l.seen.items;
  kept : IsKept l.problem.system.now l.problem.bad.now (frames_of l.frames) l.kept;
}
