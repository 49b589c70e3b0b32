-- The values so far are those of a bad state of the last frame, and each of the literals so far that they make true is needed.
use Rattle.std.proofs.Common.{take}
use Rattle.std.specs.Prelude.{All}
use Rattle.cut_frames.specs.OwnVariables.{IsKept}
use Rattle.cut_frames.specs.Levels.{frames_of}
use Rattle.cut_frames.specs.Minimal.{IsNeeded}
use Rattle.cut_frames.specs.Problem.{IsBadFound}
use Rattle.cut_frames.proofs.shrink.shrink.Given as goal
use Rattle.sat_clauses.specs.Models.{values_of}

abbrev pub invariant-literals : goal.invariant-literals
invariant-literals g l =
    IsBadFound l.problem l.frames l.least
    × All (IsNeeded l.problem.system.now l.problem.bad.now (frames_of l.frames) l.problem.history.now l.frames.last (values_of l.least)) (take l.i l.problem.history.now)
    × IsKept l.problem.system.now l.problem.bad.now (frames_of l.frames) l.kept
