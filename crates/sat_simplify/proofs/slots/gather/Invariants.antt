use Rattle.std.proofs.Common.{◌≡◌, take}
use Rattle.sat_simplify.specs.Changes.{gathered}
use Rattle.sat_simplify.proofs.slots.gather.Given as goal

abbrev pub invariant-loop-i : goal.invariant-loop-i
invariant-loop-i l = l.list ≡ gathered l.lit l.slots (take l.i-index l.at)
