-- What stands after the analyses of several top events: of each what stands after the analysis of it alone, with a certificate of its own
-- and a line of its number before the report. As there, the shown traces and the invariants are free, so what answers is a relation.
use Rattle.std.specs.Prelude.{◌≡◌, ℕ, ◌+◌, List, [], ◌∷◌, ◌++◌, Option, length, map, codes}
use Rattle.std.specs.Fmt.{decimal}
use Rattle.base_files.specs.declared.files.NamedFile.{NamedFile}
use Rattle.base_files.specs.Desk.{told_with, said_more}
use Rattle.smv_language.specs.ProgramTree.{Text, Formula}
use Rattle.cut_report_laws.specs.ExtendedTraces.{Ending, complete, bounded, Analysis}
use Rattle.verb_command_line.specs.declared.fault.WordFault.{WordFault}
use Rattle.verb_loading.specs.declared.status.Refusal.{Refusal}
use Rattle.verb_loading.specs.declared.status.Status.{Status}
use Rattle.verb_loading.specs.declared.status.Status.TheVariants as status
use Rattle.verb_loading.specs.Statuses.{status_of, refusal_text, words_text}
use Rattle.verb_loading.specs.Cases.{Case, HoldsCase, HoldsTops}
use Rattle.verb_loading.specs.CaseAnswers.{Told, Said}
use Rattle.cut_model_search.specs.CaseAnalysis.{size_for, IsFound}
use Rattle.verb_run.specs.AnswerTexts.{extension_text}
use Rattle.verb_run.specs.Analyses.{Certifies, report_of}
use Rattle.verb_run.specs.Requests.{AsksToAnalyse}
use Rattle.verb_run.specs.Tables.{RefusesTable, ended_with_all}

-- the line before the report of the event of a number
abbrev pub event_line : ℕ → Text
event_line n = codes "event " ++ (decimal n ++ codes "\n")

-- the file of the certificate of the event of a number
abbrev pub certificate_name : Text → ℕ → Text
certificate_name stem n = stem ++ (decimal n ++ codes ".cert")

-- the file that the analysis of an event leaves: for a complete answer a certificate of what it found, and else none
abbrev pub IsCertified : Case → Formula → ℕ → Analysis → Text → Told → Told → Ending → Type 0
IsCertified c e size a cert before after complete = (bytes : List ℕ) × Certifies c e size a bytes × (after ≡ told_with before cert bytes)
IsCertified c e size a cert before after (bounded k) = after ≡ before

-- the events from this number on were analysed in their order: of each its certificate was written, and its line and its report were said
abbrev pub AreReported : Case → ℕ → ℕ → Text → ℕ → List Formula → List Analysis → Told → Told → Said → Said → Type 0
AreReported c depth size stem n [] [] before after said now = (after ≡ before) × (now ≡ said)
AreReported c depth size stem n (e ∷ es) (a ∷ more) before after said now =
    IsFound c e size depth a
    × ((mid : Told) × IsCertified c e size a (certificate_name stem n) before mid a.ending
    × AreReported c depth size stem (n + 1) es more mid after (said_more said (event_line n ++ report_of c size a)) now)
AreReported c depth size stem n es more before after said now = ⊥

-- the events were analysed, each for all traces or for those of at most so many steps: the run is bounded where one of them is
pub record HasReported (c : Case) (events : List Formula) (depth size : ℕ) (stem : Text) (s : Status) (before after : Told)
    (said now : Said) : Type 0 where
  pub analyses : List Analysis
  pub reported : AreReported c depth size stem 1 events analyses before after said now
  pub ends : s ≡ ended_with_all (map (λ a. a.ending) analyses)

-- and the extension was written before
abbrev pub HasAnalysedEach : Case → List Formula → ℕ → ℕ → Text → Text → Status → Told → Told → Said → Said → Type 0
HasAnalysedEach c events depth size extended stem s before after said now =
    HasReported c events depth size stem s (told_with before extended (extension_text c)) after said now

-- What the files of an analysis of several events came to: the first refusal is the line that was said, and no file changed; or the
-- files hold a case and top events of it, and each event was analysed.
pub data AnswersEach (files : List NamedFile) (model faults tops : Text) (depth : ℕ) (extended stem : Text) (size : Option ℕ) (s : Status)
    (before after : Told) (said now : Said) : Type 0 where
  is_refused : (r : Refusal) → RefusesTable files model faults tops r → s ≡ status_of r → after ≡ before →
      now ≡ said_more said (refusal_text r) →
      AnswersEach files model faults tops depth extended stem size s before after said now
  are_analysed : (c : Case) (events : List Formula) → HoldsCase files model faults c → HoldsTops files tops c.program events →
      HasAnalysedEach c events depth (size_for size (length c.faults)) extended stem s before after said now →
      AnswersEach files model faults tops depth extended stem size s before after said now

-- What the words came to: those of another verb or of none are refused, and those of an analysis were carried out, with the word of the
-- top event as the name of a file of them, and the name of the certificate as the beginning of the names.
pub data HasAnsweredEach (files : List NamedFile) (words : List Text) (s : Status) (before after : Told) (said now : Said) : Type 0 where
  refuses_words : (f : WordFault) → s ≡ status.Words f → after ≡ before → now ≡ said_more said (words_text f) →
      HasAnsweredEach files words s before after said now
  answers : (model faults tops extended stem : Text) (depth : ℕ) (size : Option ℕ) →
      AsksToAnalyse words model faults tops depth extended stem size →
      AnswersEach files model faults tops depth extended stem size s before after said now →
      HasAnsweredEach files words s before after said now
