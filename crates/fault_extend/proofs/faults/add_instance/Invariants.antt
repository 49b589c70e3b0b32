use Rattle.std.proofs.Common.{◌≡◌, ◌++◌, map, drop}
use Rattle.std.specs.Prelude.{flat_map}
use Rattle.fault_instructions.specs.Instructions.{extension_tree, slices_from}
use Rattle.fault_weave.specs.Faults.{slice_faults}
use Rattle.fault_extend.specs.WovenFaults.{fault_tree}
use Rattle.fault_extend.proofs.faults.add_instance.Given as goal
use Rattle.smv_language.specs.ModelTree.{place_of}

abbrev pub invariant-loop-extension : goal.invariant-loop-extension
invariant-loop-extension l =
    map fault_tree l.faults ++ flat_map (slice_faults (place_of l.instance.path)) (slices_from (map extension_tree (drop l.extension-index l.i.extensions)) l.instance.«module») ≡
    map fault_tree l.initial.faults ++ flat_map (slice_faults (place_of l.instance.path)) (slices_from (map extension_tree l.i.extensions) l.instance.«module»)
