use Rattle.std.proofs.Common.{◌≡◌, take}
use Rattle.cut_frames.specs.Bits.{literals_from}
use Rattle.cut_frames.proofs.bits.literals.Given as goal

abbrev pub invariant-loop-i : goal.invariant-loop-i
invariant-loop-i l = l.lits.items ≡ literals_from l.from (take l.i l.state)
