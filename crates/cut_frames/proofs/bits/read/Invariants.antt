use Rattle.std.proofs.Common.{◌≡◌}
use Rattle.cut_frames.specs.Bits.{read_from}
use Rattle.cut_frames.proofs.bits.read.Given as goal

abbrev pub invariant-loop-i : goal.invariant-loop-i
invariant-loop-i l = l.state ≡ read_from l.from l.i l.assign
