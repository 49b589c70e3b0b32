use Rattle.std.proofs.Common.{◌≡◌, take}
use Rattle.cut_frames.specs.OwnVariables.{IsKept}
use Rattle.cut_frames.specs.Chain.{State, InFrame}
use Rattle.cut_frames.specs.FrameLists.{frame_at}
use Rattle.cut_frames.specs.Levels.{frames_of, IsTightened}
use Rattle.cut_frames.proofs.lasting.put_all.Given as goal

-- the last frame implies the clauses so far
abbrev pub invariant-loop-clause : goal.invariant-loop-clause
invariant-loop-clause l = record {
  tightened : IsTightened l.problem.system.now l.initial.frames l.frames;
  implied : (s : State) → InFrame l.problem.system.now (frame_at (frames_of l.frames) l.frames.last) s → InFrame l.problem.system.now (take l.clause-index l.clauses) s;
  kept : IsKept l.problem.system.now l.problem.bad.now (frames_of l.frames) l.kept;
}
