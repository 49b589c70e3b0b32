-- The values so far are those of a bad state of the last frame.
use Rattle.cut_frames.specs.OwnVariables.{IsKept}
use Rattle.cut_frames.specs.Levels.{frames_of}
use Rattle.cut_frames.specs.Problem.{IsBadFound}
use Rattle.cut_frames.proofs.shrink.by_halves.Given as goal

abbrev pub invariant-turns : goal.invariant-turns
invariant-turns g l = IsBadFound l.problem l.frames l.halves.values × IsKept l.problem.system.now l.problem.bad.now (frames_of l.frames) l.kept
