use Rattle.std.proofs.Common.{◌≡◌, take}
use Rattle.sat_simplify.specs.Changes.{changed, covered}
use Rattle.sat_simplify.proofs.slots.cover_each.Given as goal

abbrev pub invariant-loop-i : goal.invariant-loop-i
invariant-loop-i l = l.slots.items ≡ changed (covered l.lits) l.initial.slots.items (take l.i-index l.at)
