use Rattle.std.proofs.Common.{◌≡◌, ◌++◌, map, drop}
use Rattle.smv_language.specs.ProgramTree.{program_tree}
use Rattle.fault_instructions.specs.Instructions.{slice_tree}
use Rattle.fault_rules.specs.Sites.{owned, slice_sites}
use Rattle.fault_rules.specs.Faults.{IsLeft, slices_in}
use Rattle.fault_rules.specs.PlacedSlices.{placed_from, places_in}
use Rattle.fault_rules.proofs.items.MetItems.take_slices.Given as goal

abbrev pub invariant-loop-slice : goal.invariant-loop-slice
invariant-loop-slice l = record {
  left : IsLeft (program_tree l.known.program.now) l.initial.self l.self (slice_sites (slices_in l.initial.self) l.owner (map slice_tree l.slices)) (slice_sites (slices_in l.self) l.owner (map slice_tree (drop l.slice-index l.slices)))
      (map (owned l.owner) (map slice_tree l.slices)) (map (owned l.owner) (map slice_tree (drop l.slice-index l.slices)));
  places : places_in l.self ++ placed_from (program_tree l.known.program.now) l.self.last (slice_sites (slices_in l.self) l.owner (map slice_tree (drop l.slice-index l.slices)))
      ≡ places_in l.initial.self ++ placed_from (program_tree l.known.program.now) l.initial.self.last (slice_sites (slices_in l.initial.self) l.owner (map slice_tree l.slices));
}
