use Rattle.std.proofs.Common.{◌≡◌, ◌++◌, map, drop}
use Rattle.smv_language.specs.ProgramTree.{program_tree}
use Rattle.fault_instructions.specs.Instructions.{extension_tree}
use Rattle.fault_rules.specs.Sites.{extension_sites}
use Rattle.fault_rules.specs.Faults.{IsLeft, slices_in, file_slices}
use Rattle.fault_rules.specs.PlacedSlices.{placed_from, places_in}
use Rattle.fault_rules.proofs.items.MetItems.take_extensions.Given as goal

abbrev pub invariant-loop-extension : goal.invariant-loop-extension
invariant-loop-extension l = record {
  left : IsLeft (program_tree l.known.program.now) l.initial.self l.self (extension_sites (slices_in l.initial.self) (map extension_tree l.extensions))
      (extension_sites (slices_in l.self) (map extension_tree (drop l.extension-index l.extensions))) (file_slices (map extension_tree l.extensions)) (file_slices (map extension_tree (drop l.extension-index l.extensions)));
  places : places_in l.self ++ placed_from (program_tree l.known.program.now) l.self.last (extension_sites (slices_in l.self) (map extension_tree (drop l.extension-index l.extensions)))
      ≡ places_in l.initial.self ++ placed_from (program_tree l.known.program.now) l.initial.self.last (extension_sites (slices_in l.initial.self) (map extension_tree l.extensions));
}
