-- From what was loaded to what an analysis comes to.
use Rattle.std.proofs.Common.{ℕ, List, Option, Some, None, IfSome, length}
use Rattle.base_files.specs.declared.files.NamedFile.{NamedFile}
use Rattle.smv_language.specs.ProgramTree.{Text}
use Rattle.verb_loading.specs.declared.status.Refusal.{Refusal}
use Rattle.verb_loading.specs.declared.event.LoadedEvent.{LoadedEvent}
use Rattle.verb_loading.specs.Cases.{HoldsCase}
use Rattle.verb_loading.specs.Events.{RefusesEvent}
use Rattle.cut_model_search.specs.CaseAnalysis.{size_for}
use Rattle.verb_loading.specs.LoadedEvents.{case_in, IsEvent}
use Rattle.verb_run.specs.Runs.{refuses, analyses, AnalysisComesTo, refuses_event, is_analysed}

module _ (model faults top : Text) where
  -- an analysis that is refused, and one that is not
  pub no_analysis : (told : Option (List NamedFile)) (depth : ℕ) (extended cert : Text) (size : Option ℕ) (r : Refusal) → IfSome told (λ files. RefusesEvent files model faults top r) →
      IfSome told (λ files. AnalysisComesTo files model faults top depth extended cert size (refuses r))
  no_analysis None depth extended cert size r bad = tt
  no_analysis (Some files) depth extended cert size r bad = refuses_event r bad

  pub an_analysis : (told : Option (List NamedFile)) (depth : ℕ) (extended cert : Text) (size : Option ℕ) (l : LoadedEvent) → IfSome told (λ files. HoldsCase files model faults (case_in l)) → IsEvent top l →
      IfSome told (λ files. AnalysisComesTo files model faults top depth extended cert size (analyses (case_in l) top depth (size_for size (length (case_in l).faults)) extended cert))
  an_analysis None depth extended cert size l holds event = tt
  an_analysis (Some files) depth extended cert size l holds event = is_analysed (case_in l) event.event.top holds event.event.is_word
