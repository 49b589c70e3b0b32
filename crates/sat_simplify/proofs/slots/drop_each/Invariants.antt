use Rattle.std.proofs.Common.{◌≡◌, take}
use Rattle.sat_simplify.specs.Changes.{changed, dropped}
use Rattle.sat_simplify.proofs.slots.drop_each.Given as goal

abbrev pub invariant-loop-i : goal.invariant-loop-i
invariant-loop-i l = l.slots.items ≡ changed (dropped l.lit) l.initial.slots.items (take l.i-index l.at)
