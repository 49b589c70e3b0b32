use Rattle.std.proofs.Common.{◌≡◌, take}
use Rattle.cut_frames.specs.Levels.{standing_in}
use Rattle.cut_frames.proofs.levels.Levels.copy_frame.Given as goal

abbrev pub invariant-loop-held : goal.invariant-loop-held
invariant-loop-held l = l.list ≡ standing_in l.i (take l.held-index l.held-items)
