use Rattle.std.proofs.Common.{◌≡◌, ◌++◌, map, drop}
use Rattle.std.specs.Prelude.{flat_map}
use Rattle.smv_language.specs.ProgramTree.{module_tree, section_tree}
use Rattle.fault_instructions.specs.Instructions.{extension_tree, slices_from}
use Rattle.fault_weave.specs.WovenProgram.{slice_sections}
use Rattle.fault_weave.proofs.weave.add_extensions.Given as goal

abbrev pub invariant-loop-extension : goal.invariant-loop-extension
invariant-loop-extension l =
    map section_tree l.sections ++ flat_map (slice_sections (module_tree l.m)) (slices_from (map extension_tree (drop l.extension-index l.i.extensions)) l.m.name) ≡
    map section_tree l.initial.sections ++ flat_map (slice_sections (module_tree l.m)) (slices_from (map extension_tree l.i.extensions) l.m.name)
