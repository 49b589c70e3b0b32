-- From what was loaded to what the files and the word of a top event come to.
use Rattle.std.proofs.Common.{◌≡◌, List, Option, Some, None, IfSome, subst}
use Rattle.base_files.specs.declared.files.NamedFile.{NamedFile}
use Rattle.smv_language.specs.ProgramTree.{Text, ProgramTree}
use Rattle.verb_loading.specs.declared.status.Refusal.{Refusal}
use Rattle.verb_loading.specs.declared.status.Refusal.TheVariants as refusal
use Rattle.verb_loading.specs.declared.status.InputFault.{InputFault}
use Rattle.verb_loading.specs.Inputs.{RefusesModel, HoldsModel, RefusesFaults}
use Rattle.verb_loading.specs.Cases.{Case, HoldsCase, IsWrongWord}
use Rattle.verb_loading.specs.Events.{RefusesEvent, at_model, at_faults, at_top}

module _ (model faults top : Text) where
  pub event_no_model : (told : Option (List NamedFile)) (r : Refusal) → IfSome told (λ files. RefusesModel files model r) → IfSome told (λ files. RefusesEvent files model faults top r)
  event_no_model None r bad = tt
  event_no_model (Some files) r bad = at_model bad

  pub event_no_faults : (told mid : Option (List NamedFile)) (p : ProgramTree) (r : Refusal) → mid ≡ told → IfSome told (λ files. HoldsModel files model p) →
      IfSome mid (λ files. RefusesFaults files faults p r) → IfSome told (λ files. RefusesEvent files model faults top r)
  event_no_faults told mid p r same holds bad = at_told told holds (subst (λ t. IfSome t (λ files. RefusesFaults files faults p r)) same bad) where
    at_told : (t : Option (List NamedFile)) → IfSome t (λ files. HoldsModel files model p) → IfSome t (λ files. RefusesFaults files faults p r) →
        IfSome t (λ files. RefusesEvent files model faults top r)
    at_told None holds bad = tt
    at_told (Some files) holds bad = at_faults p holds bad

  pub event_no_top : (told : Option (List NamedFile)) (c : Case) (r : Refusal) → IfSome told (λ files. HoldsCase files model faults c) →
      (fault : InputFault) × (r ≡ refusal.Top fault) × IsWrongWord c.program top fault → IfSome told (λ files. RefusesEvent files model faults top r)
  event_no_top None c r holds wrong = tt
  event_no_top (Some files) c r holds wrong = at_top c wrong.0 holds wrong.1 wrong.2
