use Rattle.std.proofs.Common.{◌≡◌, map, drop}
use Rattle.fault_instructions.specs.Instructions.{slice_tree}
use Rattle.fault_odds.specs.FirstMark.{slice_units}
use Rattle.fault_odds.proofs.mode_marks.slice_units.Given as goal

abbrev pub invariant-loop-other : goal.invariant-loop-other
invariant-loop-other l = slice_units l.slice l.mode (map slice_tree (drop l.other-index l.slices)) ≡ slice_units l.slice l.mode (map slice_tree l.slices)
