use Rattle.std.proofs.Common.{◌≡◌, map, take}
use Rattle.fault_instructions.specs.Instructions.{slice_tree}
use Rattle.fault_instructions.proofs.copy.copy_slices.Given as goal

abbrev pub invariant-loop-slice : goal.invariant-loop-slice
invariant-loop-slice l = map slice_tree l.made ≡ map slice_tree (take l.slice-index l.slices)
