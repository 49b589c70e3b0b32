use Rattle.std.proofs.Common.{arith, ◌<◌, ◌++◌, length, map}
use Rattle.std.proofs.lemmas.Result.{err_from_is_err_and}
use Rattle.smv_language.specs.ProgramTree.{program_tree}
use Rattle.fault_instructions.specs.Instructions.{extension_tree}
use Rattle.fault_rules.specs.Sites.{extension_sites}
use Rattle.fault_rules.specs.Faults.{slices_in, file_slices}
use Rattle.fault_rules.specs.PlacedSlices.{placed_from, places_in}
use Rattle.fault_rules.proofs.PlacingLaws.{extensions_placed}
use Rattle.fault_rules.proofs.SiteFaults.{extensions_next, extensions_stop}
use Rattle.fault_rules.proofs.items.MetItems.take_extensions.Goals as goal

pub returns-in_err-take_extension-clause-told : goal.returns-in_err-take_extension-clause-told
returns-in_err-take_extension-clause-told c =
    let below : c.loop-extension.extension-index < length c.args.extensions.now = omega arith in
    let exit = err_from_is_err_and c.from_residual.result c.from_residual.ensures.1 in
    rw (exit.1, exit.2) (λ h.
    extensions_stop (program_tree c.args.known.now.program.now) c.args.self.now c.loop-extension.self (extension_sites (slices_in c.args.self.now) (map extension_tree c.args.extensions.now)) (file_slices (map extension_tree c.args.extensions.now))
    c.args.extensions.now c.loop-extension.extension-index c.extension-item.result below c.extension-item.is c.in_err-take_extension.field-0.0 c.loop-extension.invariant.left (c.in_err-take_extension.ensures.told h))

pub loop-extension-preserved : goal.loop-extension-preserved
loop-extension-preserved c =
    let below : c.loop-extension.extension-index < length c.args.extensions.now = omega arith in
    record {
      left =
          extensions_next (program_tree c.args.known.now.program.now) c.args.self.now c.loop-extension.self (extension_sites (slices_in c.args.self.now) (map extension_tree c.args.extensions.now)) (file_slices (map extension_tree c.args.extensions.now))
          c.args.extensions.now c.loop-extension.extension-index c.extension-item.result below c.extension-item.is c.take_extension.new.self c.loop-extension.invariant.left c.in_ok-take_extension.ensures.kept;
      places =
          extensions_placed (program_tree c.args.known.now.program.now)
          (places_in c.args.self.now ++ placed_from (program_tree c.args.known.now.program.now) c.args.self.now.last (extension_sites (slices_in c.args.self.now) (map extension_tree c.args.extensions.now))) c.loop-extension.self
          c.take_extension.new.self c.args.extensions.now c.loop-extension.extension-index c.extension-item.result below c.extension-item.is c.loop-extension.invariant.places c.in_ok-take_extension.ensures.places
          c.in_ok-take_extension.ensures.kept.slices_are c.in_ok-take_extension.ensures.kept.last;
    }
