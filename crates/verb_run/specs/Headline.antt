-- The whole statement of a complete and of a bounded analysis, over the bytes of files.
use Rattle.std.specs.Prelude.{◌≡◌, ◌↔◌, ℕ, List, Option, Some, IsSomeAnd, length}
use Rattle.base_files.specs.declared.files.NamedFile.{NamedFile}
use Rattle.base_files.specs.Files.{file_of}
use Rattle.base_files.specs.Desk.{said_more}
use Rattle.smv_language.specs.Language.{Text, Formula, BytesSpellProgram}
use Rattle.fault_weave.specs.Conservative.{IsExtensionOf}
use Rattle.fault_weave.specs.ExtensionTraces.{Moment, IsExtended, Reaches}
use Rattle.cut_right_laws.specs.Right.{HasAtMost, IsMinimalCutSet, IsListed}
use Rattle.cert_laws.specs.ExtendedTraces.{HasFailedFault}
use Rattle.cut_report_laws.specs.ExtendedTraces.{Ending, complete, bounded, Analysis, IsAnalysisOf}
use Rattle.verb_loading.specs.declared.status.Status.TheVariants as status
use Rattle.verb_loading.specs.Cases.{Case, extension_of, HoldsCase, IsTopWord}
use Rattle.verb_loading.specs.CaseAnswers.{Said}
use Rattle.cut_model_search.specs.CaseAnalysis.{size_for, HasChain}
use Rattle.verb_run.specs.Analyses.{Certifies, report_of, HasAnalysed}

-- What an analysis has done that ended for all traces, or for those of at most so many steps: the written file spells the
-- extension, whose faultless traces, hidden, are exactly the model's; each listed set has at most as many faults as the size
-- says and a trace that reaches the event with exactly these; every reaching extended trace of the class with at most so many
-- faults has failed all of some listed set; no listed set contains another (`IsAnalysisOf`); and the report says this analysis.
pub record IsAnalysed (before after : List NamedFile) (said now : Said) (model faults top extended : Text) (size : Option ℕ)
    (ending : Ending) : Type 0 where
  pub c : Case
  pub event : Formula
  pub holds : HoldsCase before model faults c
  pub is_event : IsTopWord c.program top event
  pub written_bytes : List ℕ
  pub has_written : file_of after extended ≡ Some written_bytes
  pub spells_written : BytesSpellProgram written_bytes (extension_of c)
  pub extension : IsExtensionOf c.program c.instructions (extension_of c)
  pub analysis : Analysis
  pub ends : analysis.ending ≡ ending
  pub right : IsAnalysisOf c.program c.instructions c.faults c.flat event (size_for size (length c.faults)) analysis
  pub reported : now ≡ said_more said (report_of c (size_for size (length c.faults)) analysis)

-- the sets are exactly the minimal cut sets of the extended traces with at most so many faults
abbrev pub AreMinimal : Case → Formula → ℕ → List (List ℕ) → Type 0
AreMinimal c event size sets =
    (set : List ℕ) →
    (IsListed (List Moment) (IsExtended c.program c.instructions) (Reaches c.program event) (HasFailedFault c.faults) sets set
    ↔ (IsMinimalCutSet (List Moment) (IsExtended c.program c.instructions) (Reaches c.program event) (HasFailedFault c.faults) set
    × HasAtMost size set))

-- a complete answer has written a certificate of what it found, which is accepted
abbrev pub HasCertificate : List NamedFile → Text → (c : Case) → Formula → Option ℕ → Analysis → Type 0
HasCertificate after cert c event size a =
    IsSomeAnd (file_of after cert) (λ bytes. Certifies c event (size_for size (length c.faults)) a bytes)

-- The headline: a complete answer has done this for all traces and written its certificate; its sets are exactly the minimal cut sets
-- of at most so many faults.
pub record IsComplete (before after : List NamedFile) (said now : Said) (model faults top extended cert : Text) (size : Option ℕ) : Type 0
  where
    pub analysed : IsAnalysed before after said now model faults top extended size complete
    pub certified : HasCertificate after cert analysed.c analysed.event size analysed.analysis
    pub minimal : AreMinimal analysed.c analysed.event (size_for size (length analysed.c.faults)) analysed.analysis.sets

-- And a bounded answer for the traces of at most so many steps as the depth: a chain that long exists, and no certificate is started.
pub record IsBounded (before after : List NamedFile) (said now : Said) (model faults top extended cert : Text) (depth : ℕ)
    (size : Option ℕ) : Type 0 where
  pub analysed : IsAnalysed before after said now model faults top extended size (bounded depth)
  pub chain : HasChain analysed.c analysed.event (size_for size (length analysed.c.faults)) analysed.analysis.sets depth
  pub untouched : file_of after cert ≡ file_of before cert

-- What answers the task of an analysis is the headline, where the two files are not one.
abbrev pub AnswersAreTheHeadline : Type 0
AnswersAreTheHeadline =
    (before after : List NamedFile) (said now : Said) (model faults top extended cert : Text) (depth : ℕ) (size : Option ℕ) (c : Case) →
    HoldsCase before model faults c → (extended ≡ cert → ⊥) →
    (HasAnalysed c top depth (size_for size (length c.faults)) extended cert status.Done (Some before) (Some after) said now →
    IsComplete before after said now model faults top extended cert size)
    × ((k : ℕ) → HasAnalysed c top depth (size_for size (length c.faults)) extended cert (status.Bounded k) (Some before) (Some after) said
    now →
    (k ≡ depth) × IsBounded before after said now model faults top extended cert depth size)
