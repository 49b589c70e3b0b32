use Rattle.std.proofs.Common.{suc, take}
use Rattle.cut_frames.specs.OwnVariables.{IsKept}
use Rattle.cut_frames.specs.Levels.{frames_from}
use Rattle.cut_frames.proofs.fresh.renewed.Given as goal

abbrev pub invariant-loop-held : goal.invariant-loop-held
invariant-loop-held g l = IsKept l.system l.bad (frames_from 0 (suc l.frames.last) (take l.held-index l.held-items)) l.kept
