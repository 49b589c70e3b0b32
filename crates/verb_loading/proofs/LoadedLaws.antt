-- What is known of a case in memory: its files hold it, its traces can be read and judged, and its faults have their modes.
use Rattle.std.proofs.Common.{◌≡◌, List, [], ◌∷◌, Option, Some, None, IfSome, length, refl, ap, subst, suc}
use Rattle.base_files.specs.declared.files.NamedFile.{NamedFile}
use Rattle.smv_language.specs.Language.{Text, ProgramTree, model_tree}
use Rattle.verb_loading.specs.Inputs.{HoldsModel}
use Rattle.verb_loading.specs.Cases.{HoldsCase, extension_of}
use Rattle.verb_loading.specs.LoadedCases.{case_of, HoldsLoaded, IsLoaded}
use Rattle.verb_loading.specs.declared.loaded.LoadedCase.{LoadedCase}
use Rattle.std.specs.Prelude.{length}
use Rattle.smv_language.specs.declared.model.FlatModel.{FlatModel as Flat}
use Rattle.smv_language.specs.declared.model.Fault.{Fault as FaultOf}
use Rattle.smv_evaluation.specs.EvaluableModels.{IsEvaluable}
use Rattle.smv_evaluation.proofs.ModelLaws.{evaluable}
use Rattle.fault_extend.specs.NumberedFaults.{AreNumbered}
use Rattle.fault_extend.specs.declared.faults.WovenFault.{WovenFault}
use Rattle.cut_text_laws.specs.TraceOfText.{IsPrintable, HasItsSymbols}
use Rattle.cut_text_laws.proofs.Named.{named_is_printable}
use Rattle.cut_text_laws.proofs.FlatNames.{flat_models_named}
use Rattle.cut_text_laws.proofs.FlatSymbols.{flat_models_have_symbols}

module _ (model faults trace top : Text) where
  -- both are taken
  pub holds_case : (told mid : Option (List NamedFile)) (p : ProgramTree) (l : LoadedCase) → mid ≡ told → IfSome told (λ files. HoldsModel files model p) →
      IfSome mid (λ files. HoldsLoaded files faults p l) → IfSome told (λ files. HoldsCase files model faults (case_of p l))
  holds_case told mid p l same holds loaded = at_told told holds (subst (λ t. IfSome t (λ files. HoldsLoaded files faults p l)) same loaded) where
    at_told : (t : Option (List NamedFile)) → IfSome t (λ files. HoldsModel files model p) → IfSome t (λ files. HoldsLoaded files faults p l) →
        IfSome t (λ files. HoldsCase files model faults (case_of p l))
    at_told None holds loaded = tt
    at_told (Some files) holds loaded = record { program = holds; bytes = loaded.bytes; has = loaded.has; is_text = loaded.is_text; is_case = loaded.is_case }

module _ (p : ProgramTree) (l : LoadedCase) (loaded : IsLoaded p l) where
  pub loaded_printable : IsPrintable (model_tree l.limited.typed.model)
  loaded_printable =
      named_is_printable (model_tree l.limited.typed.model)
      (flat_models_named (extension_of (case_of p l)) (model_tree l.limited.typed.model) loaded.is_case.within.accepted loaded.is_case.is_flat.is loaded.writable)

  pub loaded_symbols : HasItsSymbols (model_tree l.limited.typed.model)
  loaded_symbols = flat_models_have_symbols (extension_of (case_of p l)) (model_tree l.limited.typed.model) loaded.is_case.within.accepted loaded.is_case.is_flat.is

  pub loaded_evaluable : IsEvaluable (model_tree l.limited.typed.model)
  loaded_evaluable = evaluable (extension_of (case_of p l)) (model_tree l.limited.typed.model) loaded.is_case.is_flat.is

pub same_counts : (m : Flat) (ws : List WovenFault) (fs : List FaultOf) → AreNumbered m ws fs → length ws ≡ length fs
same_counts m [] [] h = refl
same_counts m [] (f ∷ fs) h = absurd h
same_counts m (w ∷ ws) [] h = absurd h
same_counts m (w ∷ ws) (f ∷ fs) h = ap suc (same_counts m ws fs h.1)
