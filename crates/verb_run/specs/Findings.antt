-- What the code of an analysis has in memory: what is analysed, what a search found of it, and how the writing ends.
use Rattle.std.specs.Prelude.{◌≡◌, ℕ, List, Option, Some, None, length, Result, Ok, Err}
use Rattle.base_files.specs.declared.desk.WriteStop.{WriteStop}
use Rattle.base_files.specs.declared.desk.WriteStop.TheVariants as stop
use Rattle.smv_language.specs.ProgramTree.{Text, Formula}
use Rattle.cut_text_laws.specs.Analysis.{told_ending}
use Rattle.cut_report_laws.specs.ExtendedTraces.{Ending, complete, bounded, Analysis}
use Rattle.cert_file.specs.declared.conclusion.Conclusion.{Conclusion}
use Rattle.verb_run.specs.declared.analysis.Analysing.{Analysing}
use Rattle.verb_loading.specs.declared.status.Status.{Status}
use Rattle.verb_loading.specs.declared.status.Status.TheVariants as status
use Rattle.verb_loading.specs.Cases.{Case, IsTopWord}
use Rattle.cut_model_search.specs.CaseAnalysis.{size_for, IsFound}
use Rattle.verb_run.specs.Analyses.{Certifies, report_of}
use Rattle.verb_loading.specs.LoadedEvents.{case_in}

-- the case that is analysed
abbrev pub analysed_case : Analysing → Case
analysed_case a = case_in a.loaded

-- the size with which it is analysed
abbrev pub analysed_size : Analysing → ℕ
analysed_size a = size_for a.size (length (analysed_case a).faults)

-- the same over the analysis of a case
abbrev pub IsCertifiedAs : Case → Formula → ℕ → Analysis → Ending → Option (List ℕ) → Type 0
IsCertifiedAs c e size a complete (Some bytes) = Certifies c e size a bytes
IsCertifiedAs c e size a (bounded k) None = Unit {0}
IsCertifiedAs c e size a _ _ = ⊥

-- what a search found of a case: an analysis, its ending and its report, and for a complete answer a certificate
pub record IsFinding (c : Case) (word : Text) (depth size : ℕ) (f : Conclusion) : Type 0 where
  pub event : Formula
  pub is_event : IsTopWord c.program word event
  pub analysis : Analysis
  pub found : IsFound c event size depth analysis
  pub ends : told_ending f.ending ≡ analysis.ending
  pub reported : f.report ≡ report_of c size analysis
  pub certified : IsCertifiedAs c event size analysis analysis.ending f.cert

-- the status where the work was done, and else why it was not
abbrev pub finished_as : Result Status WriteStop → Status
finished_as (Ok s) = s
finished_as (Err stop.Failed) = status.Desk
finished_as (Err stop.OutOfMemory) = status.Memory
