use Rattle.std.proofs.Common.{◌≡◌}
use Rattle.sat_encoding_laws.specs.Layout.{literals_from}
use Rattle.sat_encoding.proofs.layout.literals_from.Given as goal

abbrev pub invariant-loop-i : goal.invariant-loop-i
invariant-loop-i l = l.word ≡ literals_from l.i l.place
