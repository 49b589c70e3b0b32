use Rattle.std.proofs.Common.{◌≡◌, take}
use Rattle.sat_simplify.specs.Slots.{standing}
use Rattle.sat_simplify.proofs.lists.standing.Given as goal

abbrev pub invariant-loop-slot : goal.invariant-loop-slot
invariant-loop-slot l = l.list ≡ standing (take l.slot-index l.slots)
