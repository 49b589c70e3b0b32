use Rattle.std.proofs.Common.{◌≡◌, ◌++◌, ◌∷◌, [], ◌∙◌, refl, sym, ap, map}
use Rattle.std.proofs.lemmas.Result.{err_from_is_err_and}
use Rattle.smv_language.specs.ProgramTree.{program_tree, declared_tree}
use Rattle.fault_instructions.specs.Instructions.{mode_tree}
use Rattle.fault_rules.specs.Faults.{placed_tree, slices_in}
use Rattle.fault_rules.proofs.PlacingLaws.{seen_more}
use Rattle.fault_rules.proofs.SiteFaults.{place_faults, place_met, placed_more, modes_last}
use Rattle.fault_rules.proofs.items.MetItems.place.Goals as goal

pub returns-in_err-self-clause-told : goal.returns-in_err-self-clause-told
returns-in_err-self-clause-told c =
    let exit = err_from_is_err_and c.from_residual-in_err-self.result c.from_residual-in_err-self.ensures.1 in
    rw (exit.1, exit.2) (λ h.
    sym (place_faults (program_tree c.args.known.now.program.now) c.args.self.now c.requires.met (placed_tree c.args.placed.now) c.args.names.now c.requires.names c.add_slice.new.self.states c.add_slice.new.self.owns
    c.in_ok-add_slice.ensures.states c.in_ok-add_slice.ensures.owns (declared_tree c.args.placed.now.declared.now) c.args.placed.now.item (map mode_tree c.args.placed.now.slice.now.modes) c.requires.declared)
    ∙ c.in_err-self.ensures.told h)

pub returns-clause-kept : goal.returns-clause-kept
returns-clause-kept c =
    let are : slices_in (record c.add_slice.new.self { states = c.take_modes.new.states; placed = c.push.new.self; last = c.in_ok-self.field-0 }) ≡ slices_in c.args.self.now ++ placed_tree c.args.placed.now ∷ [] =
    placed_more c.args.self.now.placed.items c.push.new.self.items c.args.placed.now (c.in_ok-push.ensures.items ∙ ap (λ v. v.items ++ c.args.placed.now ∷ []) c.in_ok-add_slice.ensures.placed) in
    record {
      kept = sym (place_faults (program_tree c.args.known.now.program.now) c.args.self.now c.requires.met (placed_tree c.args.placed.now) c.args.names.now c.requires.names c.add_slice.new.self.states c.add_slice.new.self.owns
          c.in_ok-add_slice.ensures.states c.in_ok-add_slice.ensures.owns (declared_tree c.args.placed.now.declared.now) c.args.placed.now.item (map mode_tree c.args.placed.now.slice.now.modes) c.requires.declared)
          ∙ c.in_ok-self.ensures.kept;
      last = modes_last (slices_in c.args.self.now) (placed_tree c.args.placed.now) c.args.placed.now.slice.now.modes c.args.placed.now.item c.in_ok-self.field-0 c.in_ok-self.ensures.last;
      slices_are = are;
      met = place_met (program_tree c.args.known.now.program.now) c.args.self.now c.requires.met (placed_tree c.args.placed.now) c.args.names.now c.requires.names c.add_slice.new.self.states c.add_slice.new.self.owns
          c.in_ok-add_slice.ensures.states c.in_ok-add_slice.ensures.owns (record c.add_slice.new.self { states = c.take_modes.new.states; placed = c.push.new.self; last = c.in_ok-self.field-0 }) are c.in_ok-self.ensures.states refl
          c.in_ok-add_slice.ensures.slices c.in_ok-add_slice.ensures.targets;
    }

pub returns-clause-places : goal.returns-clause-places
returns-clause-places c = seen_more c.args.self.now.placed.items c.push.new.self.items c.args.placed.now (c.in_ok-push.ensures.items ∙ ap (λ v. v.items ++ c.args.placed.now ∷ []) c.in_ok-add_slice.ensures.placed)
