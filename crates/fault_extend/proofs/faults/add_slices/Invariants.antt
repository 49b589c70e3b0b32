use Rattle.std.proofs.Common.{◌≡◌, ◌++◌, map, drop}
use Rattle.std.specs.Prelude.{flat_map}
use Rattle.fault_instructions.specs.Instructions.{slice_tree}
use Rattle.fault_weave.specs.Faults.{slice_faults}
use Rattle.fault_extend.specs.WovenFaults.{fault_tree}
use Rattle.fault_extend.proofs.faults.add_slices.Given as goal
use Rattle.smv_language.specs.ModelTree.{place_of}

abbrev pub invariant-loop-slice : goal.invariant-loop-slice
invariant-loop-slice l =
    map fault_tree l.faults ++ flat_map (slice_faults (place_of l.instance.path)) (map slice_tree (drop l.slice-index l.slices)) ≡
    map fault_tree l.initial.faults ++ flat_map (slice_faults (place_of l.instance.path)) (map slice_tree l.slices)
