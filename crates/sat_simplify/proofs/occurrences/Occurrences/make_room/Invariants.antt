use Rattle.std.proofs.Common.{◌+◌, ◌-◌, length}
use Rattle.sat_simplify.specs.OccurrenceLists.{KeepsNotes}
use Rattle.sat_simplify.proofs.occurrences.Occurrences.make_room.Given as goal

abbrev pub invariant-loop-self : goal.invariant-loop-self
invariant-loop-self l = KeepsNotes l.initial.self-inside.lists.items l.self-inside.lists.items

abbrev pub decreases-loop-self : goal.decreases-loop-self
decreases-loop-self l = l.code + 1 - length l.self-inside.lists.items
