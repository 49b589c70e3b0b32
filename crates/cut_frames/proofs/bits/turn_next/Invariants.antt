use Rattle.std.proofs.Common.{◌≡◌, take}
use Rattle.cut_frames.specs.Bits.{against_next}
use Rattle.cut_frames.proofs.bits.turn_next.Given as goal

abbrev pub invariant-loop-lit : goal.invariant-loop-lit
invariant-loop-lit l = l.turned.items ≡ against_next l.bits (take l.lit-index l.lit-items)
