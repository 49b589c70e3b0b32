use Rattle.std.proofs.Common.{◌+◌, ◌-◌, length}
use Rattle.sat_simplify.specs.CompactNumbers.{KeepsMarks}
use Rattle.sat_simplify.proofs.compact.make_room.Given as goal

abbrev pub invariant-loop-marks : goal.invariant-loop-marks
invariant-loop-marks l = KeepsMarks l.initial.marks.items l.marks.items

abbrev pub decreases-loop-marks : goal.decreases-loop-marks
decreases-loop-marks l = l.i + 1 - length l.marks.items
