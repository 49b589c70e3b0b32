use Rattle.std.proofs.Common.{◌≢◌, All, take}
use Rattle.cut_frames.specs.declared.levels.Held.{Held}
use Rattle.cut_frames.proofs.levels.Levels.is_level_empty.Given as goal

abbrev pub invariant-loop-held : goal.invariant-loop-held
invariant-loop-held l = All (λ (h : Held). h.highest ≢ l.i) (take l.held-index l.held-items)
