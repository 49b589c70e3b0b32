-- What stands after an analysis. Its report and certificate may be one of many texts, since the shown traces and
-- the invariant are free: so what answers is a relation between a case and what stands.
use Rattle.std.specs.Prelude.{◌≡◌, ℕ, List, length}
use Rattle.base_files.specs.Desk.{told_with, said_more, SaysPrefix, WritesPrefix}
use Rattle.smv_language.specs.Language.{Tree, Text, Formula, FlatLeaf}
use Rattle.cut_report_laws.specs.ExtendedTraces.{Ending, complete, bounded, Analysis}
use Rattle.cut_report_laws.specs.AnalysisText.{analysis_text}
use Rattle.verb_loading.specs.declared.status.Status.{Status}
pub use Rattle.verb_loading.specs.Statuses.{ended_with}
use Rattle.verb_loading.specs.Cases.{Case, IsTopWord}
use Rattle.verb_loading.specs.Tasks.{IsTopTree}
use Rattle.verb_loading.specs.CaseAnswers.{Told, Said, faults_text, bits_of}
use Rattle.verb_run.specs.AnswerTexts.{extension_text}
use Rattle.cut_model_search.specs.CaseAnalysis.{IsFound, IsCertificateFor}

-- the bytes spell an accepted certificate of what the analysis found
abbrev pub Certifies : Case → Formula → ℕ → Analysis → List ℕ → Type 0
Certifies c top size a bytes = (tree : Tree FlatLeaf) × IsTopTree c top tree
    × IsCertificateFor c.flat c.modes tree size a.sets a.shown bytes

-- the files that an analysis leaves: the extension, and for a complete answer a certificate
abbrev pub AreWritten : Case → Formula → ℕ → Analysis → Text → Text → Told → Told → Ending → Type 0
AreWritten c top size a extended cert before after complete =
    (bytes : List ℕ) × Certifies c top size a bytes × (after ≡ told_with (told_with before extended (extension_text c)) cert bytes)
AreWritten c top size a extended cert before after (bounded k) = after ≡ told_with before extended (extension_text c)

-- what is said of an analysis
abbrev pub report_of : Case → ℕ → Analysis → Text
report_of c size a = analysis_text (faults_text c.faults) c.flat (bits_of c) (length c.faults) size a

-- an analysis of the case for the top event that the word spells was written and said
pub record HasAnalysed (c : Case) (word : Text) (depth size : ℕ) (extended cert : Text) (s : Status) (before after : Told)
    (said now : Said) : Type 0 where
  pub event : Formula
  pub is_event : IsTopWord c.program word event
  pub analysis : Analysis
  pub found : IsFound c event size depth analysis
  pub ends : s ≡ ended_with analysis.ending
  pub written : AreWritten c event size analysis extended cert before after analysis.ending
  pub reported : now ≡ said_more said (report_of c size analysis)

-- A part of it, in the order of the work: of the extension; of the certificate of a complete answer, where the extension is
-- written; of the report, where all files are written.
pub data AnalysesInPart (c : Case) (word : Text) (depth size : ℕ) (extended cert : Text) (before after : Told) (said now : Said) : Type 0
  where
    part_of_extension : WritesPrefix before after extended (extension_text c) → now ≡ said →
        AnalysesInPart c word depth size extended cert before after said now
    part_of_certificate : (e : Formula) (a : Analysis) (bytes : List ℕ) → IsTopWord c.program word e → IsFound c e size depth a →
        a.ending ≡ complete → Certifies c e size a bytes →
        WritesPrefix (told_with before extended (extension_text c)) after cert bytes → now ≡ said →
        AnalysesInPart c word depth size extended cert before after said now
    part_of_report : (e : Formula) (a : Analysis) → IsTopWord c.program word e → IsFound c e size depth a →
        AreWritten c e size a extended cert before after a.ending →
        SaysPrefix said now (report_of c size a) → AnalysesInPart c word depth size extended cert before after said now
