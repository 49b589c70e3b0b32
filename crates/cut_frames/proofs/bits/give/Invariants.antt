use Rattle.std.proofs.Common.{◌≡◌, length}
use Rattle.cut_frames.specs.Path.{AreTaken, AreKept}
use Rattle.cut_frames.proofs.bits.give.Given as goal

abbrev pub invariant-loop-i : goal.invariant-loop-i
invariant-loop-i l = record {
  same : length l.given ≡ length l.initial.given;
  taken : AreTaken l.from l.i l.values l.given;
  others : AreKept l.from l.i l.initial.given l.given;
}
