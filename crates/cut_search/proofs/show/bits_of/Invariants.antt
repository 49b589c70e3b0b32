-- those noted so far are those of the bits so far
use Rattle.std.proofs.Common.{◌≡◌}
use Rattle.cut_search.specs.Bits.{bits_set}
use Rattle.cut_search.proofs.show.bits_of.Given as goal

abbrev pub invariant-loop-i : goal.invariant-loop-i
invariant-loop-i l = l.set ≡ bits_set l.moment l.first l.i
