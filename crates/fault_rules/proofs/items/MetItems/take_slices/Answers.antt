use Rattle.std.proofs.Common.{arith, ◌<◌, ◌++◌, length, map}
use Rattle.std.proofs.lemmas.Result.{err_from_is_err_and}
use Rattle.smv_language.specs.ProgramTree.{program_tree}
use Rattle.fault_instructions.specs.Instructions.{slice_tree}
use Rattle.fault_rules.specs.Sites.{owned, slice_sites}
use Rattle.fault_rules.specs.Faults.{slices_in}
use Rattle.fault_rules.specs.PlacedSlices.{placed_from, places_in}
use Rattle.fault_rules.proofs.PlacingLaws.{slices_placed}
use Rattle.fault_rules.proofs.SiteFaults.{slices_next, slices_stop}
use Rattle.fault_rules.proofs.items.MetItems.take_slices.Goals as goal

pub returns-in_err-take_slice-clause-told : goal.returns-in_err-take_slice-clause-told
returns-in_err-take_slice-clause-told c =
    let below : c.loop-slice.slice-index < length c.args.slices.now = omega arith in
    let exit = err_from_is_err_and c.from_residual.result c.from_residual.ensures.1 in
    rw (exit.1, exit.2) (λ h.
    slices_stop (program_tree c.args.known.now.program.now) c.args.self.now c.loop-slice.self c.args.owner.now (slice_sites (slices_in c.args.self.now) c.args.owner.now (map slice_tree c.args.slices.now))
    (map (owned c.args.owner.now) (map slice_tree c.args.slices.now)) c.args.slices.now c.loop-slice.slice-index c.slice-item.result below c.slice-item.is c.in_err-take_slice.field-0.0 c.loop-slice.invariant.left
    (c.in_err-take_slice.ensures.told h))

pub loop-slice-preserved : goal.loop-slice-preserved
loop-slice-preserved c =
    let below : c.loop-slice.slice-index < length c.args.slices.now = omega arith in
    record {
      left =
          slices_next (program_tree c.args.known.now.program.now) c.args.self.now c.loop-slice.self c.args.owner.now (slice_sites (slices_in c.args.self.now) c.args.owner.now (map slice_tree c.args.slices.now))
          (map (owned c.args.owner.now) (map slice_tree c.args.slices.now)) c.args.slices.now c.loop-slice.slice-index c.slice-item.result below c.slice-item.is c.take_slice.new.self c.loop-slice.invariant.left c.in_ok-take_slice.ensures.kept;
      places =
          slices_placed (program_tree c.args.known.now.program.now)
          (places_in c.args.self.now ++ placed_from (program_tree c.args.known.now.program.now) c.args.self.now.last (slice_sites (slices_in c.args.self.now) c.args.owner.now (map slice_tree c.args.slices.now))) c.loop-slice.self
          c.take_slice.new.self c.args.owner.now c.args.slices.now c.loop-slice.slice-index c.slice-item.result below c.slice-item.is c.loop-slice.invariant.places c.in_ok-take_slice.ensures.places
          c.in_ok-take_slice.ensures.kept.slices_are c.in_ok-take_slice.ensures.kept.last;
    }
