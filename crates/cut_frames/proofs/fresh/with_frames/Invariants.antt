use Rattle.std.proofs.Common.{suc, []}
use Rattle.cut_frames.specs.OwnVariables.{IsKept}
use Rattle.cut_frames.specs.Levels.{frames_from}
use Rattle.cut_frames.proofs.fresh.with_frames.Given as goal

abbrev pub invariant-loop : goal.invariant-loop
invariant-loop g l = IsKept l.system l.bad (frames_from 0 (suc l.counter) []) l.kept
