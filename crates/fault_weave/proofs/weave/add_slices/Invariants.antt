use Rattle.std.proofs.Common.{◌≡◌, ◌++◌, map, drop}
use Rattle.std.specs.Prelude.{flat_map}
use Rattle.smv_language.specs.ProgramTree.{module_tree, section_tree}
use Rattle.fault_instructions.specs.Instructions.{slice_tree}
use Rattle.fault_weave.specs.WovenProgram.{slice_sections}
use Rattle.fault_weave.proofs.weave.add_slices.Given as goal

abbrev pub invariant-loop-slice : goal.invariant-loop-slice
invariant-loop-slice l =
    map section_tree l.sections ++ flat_map (slice_sections (module_tree l.m)) (map slice_tree (drop l.slice-index l.slices)) ≡
    map section_tree l.initial.sections ++ flat_map (slice_sections (module_tree l.m)) (map slice_tree l.slices)
