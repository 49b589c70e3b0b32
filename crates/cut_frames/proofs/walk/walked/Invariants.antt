use Rattle.cut_frames.specs.Levels.{frames_of}
use Rattle.cut_frames.specs.OwnVariables.{IsKept}
use Rattle.cut_frames.specs.Path.{AreLinked}
use Rattle.cut_frames.proofs.walk.walked.Given as goal

abbrev pub invariant-states : goal.invariant-states
invariant-states g l = record {
  linked : AreLinked l.problem.system.now l.problem.bad.now l.owed;
  kept : IsKept l.problem.system.now l.problem.bad.now (frames_of l.frames) l.kept;
}
