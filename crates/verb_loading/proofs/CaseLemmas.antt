-- An extension in memory, as a case.
use Rattle.std.proofs.Common.{◌≡◌, ℕ, List, map, sym, ap, subst, ◌∙◌}
use Rattle.smv_language.specs.Language.{ProgramTree, program_tree, program_text, model_tree, FlatModel as ModelTree, EachBoth}
use Rattle.smv_language.proofs.Spelled.{program_writable}
use Rattle.smv_flat_laws.specs.FaultModes.{mode_of}
use Rattle.smv_flat_laws.specs.History.{with_history}
use Rattle.fault_instructions.specs.Instructions.{instruction_tree}
use Rattle.fault_instructions.specs.declared.instructions.Instructions.{Instructions}
use Rattle.smv_type_laws.specs.Models.{IsTyped}
use Rattle.fault_weave.specs.Faults.{HasFaults}
use Rattle.fault_weave.specs.WovenProgram.{woven}
use Rattle.fault_extend.specs.WovenFaults.{fault_tree}
use Rattle.fault_extend.specs.NumberedFaults.{AreNumbered}
use Rattle.fault_extend.specs.declared.faults.Woven.{Woven}
use Rattle.verb_loading.specs.declared.loaded.Limited.{Limited}
use Rattle.verb_loading.specs.Models.{IsModelOf, IsSpelled}
use Rattle.verb_loading.specs.Wholes.{IsWithinLimits}
use Rattle.verb_loading.specs.Inputs.{IsInstructionText, AreTaken}
use Rattle.verb_loading.specs.LoadedCases.{IsLoaded, IsLimited}
use Rattle.verb_loading.proofs.OneModes.{one_modes}
use Rattle.verb_loading.proofs.WholeLemmas.{numbered_modes}
use Rattle.verb_loading.proofs.WovenSpells.{woven_text_spells}
use Rattle.cert_laws.specs.ExtendedTraces.{IsModeOfFault}

-- a woven program within the limits is loaded with the instructions that it was woven with
pub is_loaded : (p : ProgramTree) (bytes : List ℕ) (i : Instructions) (w : Woven) (l : Limited) → IsSpelled p → IsInstructionText bytes (instruction_tree i) → AreTaken p (instruction_tree i) →
    HasFaults p (instruction_tree i) (map fault_tree w.faults) → program_tree w.program ≡ woven p (instruction_tree i) → IsLimited w l → IsLoaded p (record { instructions = i; limited = l })
is_loaded p bytes i w l spelled text taken faults program limited =
    let extension = woven p (instruction_tree i) in
    let m : ModelTree = model_tree l.typed.model in
    let within : IsWithinLimits extension (map fault_tree w.faults) = subst (λ q. IsWithinLimits q (map fault_tree w.faults)) program limited.within in
    let flat : IsModelOf extension m = subst (λ q. IsModelOf q m) program limited.is_flat in
    let modes : EachBoth (IsModeOfFault m) (map fault_tree w.faults) (map mode_of l.faults) = numbered_modes l.typed.model w.faults l.faults limited.numbered in
    let whole = within.is_whole in
    let flats : whole.flat ≡ m = flat.only whole.flat whole.model.is in
    let same : whole.modes ≡ map mode_of l.faults =
    one_modes extension within.accepted m flat.is (map fault_tree w.faults) whole.modes (map mode_of l.faults) (subst (λ k. EachBoth (IsModeOfFault k) (map fault_tree w.faults) whole.modes) flats whole.are_modes) modes in
    let typed : IsTyped (with_history m (map mode_of l.faults)) = subst IsTyped (whole.is ∙ (λ j. with_history (flats j) (same j))) within.typed in
    let kept : l.woven ≡ w = limited.kept in
    record {
      is_case = record {
        taken = taken;
        are_faults = subst (λ v. HasFaults p (instruction_tree i) (map fault_tree v.faults)) (sym kept) faults;
        within = subst (λ v. IsWithinLimits extension (map fault_tree v.faults)) (sym kept) within;
        is_flat = flat;
        are_modes = subst (λ v. EachBoth (IsModeOfFault m) (map fault_tree v.faults) (map mode_of l.faults)) (sym kept) modes;
        typed = typed;
      };
      program = ap (λ v. program_tree v.program) kept ∙ program;
      numbered = subst (λ v. AreNumbered l.typed.model v.faults l.faults) (sym kept) limited.numbered;
      writable = program_writable (program_text extension) extension (woven_text_spells spelled.bytes bytes p (instruction_tree i) spelled.spelled text.spelled);
      full = limited.full;
    }
