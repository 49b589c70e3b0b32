use Rattle.std.proofs.Common.{◌≡◌, ◌++◌, map, drop}
use Rattle.std.specs.Prelude.{flat_map}
use Rattle.fault_instructions.specs.Instructions.{slice_tree}
use Rattle.fault_odds.specs.Marks.{slice_marks}
use Rattle.fault_odds.proofs.mode_marks.add_slices.Given as goal

abbrev pub invariant-loop-slice : goal.invariant-loop-slice
invariant-loop-slice l = l.marks ++ flat_map slice_marks (map slice_tree (drop l.slice-index l.slices)) ≡ l.initial.marks ++ flat_map slice_marks (map slice_tree l.slices)
