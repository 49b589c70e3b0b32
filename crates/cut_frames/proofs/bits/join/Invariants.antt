use Rattle.std.proofs.Common.{◌≡◌, map, take, ◌++◌}
use Rattle.cut_frames.specs.Bits.{moved_back}
use Rattle.cut_frames.proofs.bits.join.Given as goal

abbrev pub invariant-loop-lit : goal.invariant-loop-lit
invariant-loop-lit l = l.both.items ≡ l.clause ++ map (moved_back l.bits) (take l.lit-index l.lit-items)
