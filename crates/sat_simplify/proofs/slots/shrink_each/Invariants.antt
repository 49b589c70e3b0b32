use Rattle.std.proofs.Common.{◌≡◌, take}
use Rattle.sat_simplify.specs.Changes.{changed, shrunk}
use Rattle.sat_simplify.proofs.slots.shrink_each.Given as goal

abbrev pub invariant-loop-i : goal.invariant-loop-i
invariant-loop-i l = l.slots.items ≡ changed (shrunk l.lit) l.initial.slots.items (take l.i-index l.at)
