-- What the code of several analyses has in memory: what is analysed, and what a search found of one event.
use Rattle.std.specs.Prelude.{◌≡◌, ℕ, List, ◌++◌, length}
use Rattle.smv_language.specs.ProgramTree.{Formula}
use Rattle.cut_text_laws.specs.Analysis.{told_ending}
use Rattle.cut_report_laws.specs.ExtendedTraces.{Ending, Analysis}
use Rattle.cert_file.specs.declared.conclusion.Conclusion.{Conclusion}
use Rattle.verb_loading.specs.declared.status.Status.{Status}
use Rattle.verb_loading.specs.declared.status.Status.TheVariants as status
use Rattle.verb_loading.specs.Statuses.{ended_with}
use Rattle.verb_loading.specs.Cases.{Case}
use Rattle.cut_model_search.specs.CaseAnalysis.{size_for, IsFound}
use Rattle.verb_run.specs.Analyses.{report_of}
use Rattle.verb_run.specs.Findings.{IsCertifiedAs}
use Rattle.verb_run.specs.Tables.{tabulated_case, tabulated_events}
use Rattle.verb_tops.specs.declared.each.Asked.{Asked}
use Rattle.verb_tops.specs.Each.{event_line}

-- the case that is analysed, its events, and the size with which it is
abbrev pub case_of_asked : Asked → Case
case_of_asked a = tabulated_case a.loaded

abbrev pub events_of_asked : Asked → List Formula
events_of_asked a = tabulated_events a.loaded

abbrev pub size_of_asked : Asked → ℕ
size_of_asked a = size_for a.size (length (case_of_asked a).faults)

-- what a search found of the event of a number: an analysis, its ending and its report after the line of the event, and for a complete
-- answer a certificate
pub record IsEventFinding (c : Case) (e : Formula) (depth size n : ℕ) (f : Conclusion) : Type 0 where
  pub analysis : Analysis
  pub found : IsFound c e size depth analysis
  pub ends : told_ending f.ending ≡ analysis.ending
  pub reported : f.report ≡ event_line n ++ report_of c size analysis
  pub certified : IsCertifiedAs c e size analysis analysis.ending f.cert

-- the status of a run whose events so far end with this one, after one more
abbrev pub joined_with : Status → Ending → Status
joined_with status.Done e = ended_with e
joined_with s e = s
