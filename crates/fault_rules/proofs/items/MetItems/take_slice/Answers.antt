use Rattle.std.proofs.Common.{◌≡◌, ◌++◌, OnOk, subst}
use Rattle.smv_language.specs.ProgramTree.{program_tree, declared_tree}
use Rattle.fault_instructions.specs.Instructions.{slice_tree}
use Rattle.fault_rules.specs.Faults.{slices_in}
use Rattle.fault_rules.specs.PlacedSlices.{places_in}
use Rattle.fault_rules.proofs.PlacingLaws.{slice_placed}
use Rattle.fault_rules.proofs.items.MetItems.take_slice.Goals as goal

pub returns-clause-places : goal.returns-clause-places
returns-clause-places c =
    subst (λ ps. OnOk c.place.result (places_in c.place.new.self ≡ places_in c.args.self.now ++ ps))
    (slice_placed (program_tree c.args.known.now.program.now) c.args.self.now.last c.in_ok-item.item (slices_in c.args.self.now) c.args.owner.now (slice_tree c.args.slice.now) (declared_tree c.in-Ok.declared.now) c.in_ok-item.ensures.next
    c.in-Ok.ensures.declared)
    c.place.ensures.places
