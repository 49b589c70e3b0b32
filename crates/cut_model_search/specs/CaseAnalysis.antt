-- What an analysis of a case is, and which bytes certify one.
use Rattle.std.specs.Prelude.{◌≡◌, ℕ, List, Option, Some, None, map, min}
use Rattle.smv_language.specs.Language.{Tree, Formula, Value, FlatLeaf, FlatModel}
use Rattle.smv_flat_laws.specs.History.{Mode, with_history}
use Rattle.cut_search_laws.specs.Problem.{problem_of}
use Rattle.cut_search.specs.Progress.{HasChainFor}
use Rattle.cut_text_laws.specs.TraceOfText.{GivesTrace}
use Rattle.cut_text_laws.specs.Lines.{fed}
use Rattle.cut_text_laws.specs.TraceText.{trace_lines}
use Rattle.cert_laws.specs.Certificate.{Certificate}
use Rattle.cert_laws.specs.CertificateText.{SpellsCertificate, version_two, lines_of}
use Rattle.cert_laws.specs.Certification.{IsCertified}
use Rattle.cert_laws.specs.Subject.{subject_of}
use Rattle.cut_report_laws.specs.ExtendedTraces.{Ending, complete, bounded, Analysis, IsAnalysisOf}
use Rattle.verb_loading.specs.Cases.{Case}
use Rattle.verb_loading.specs.Tasks.{IsTopTree}

-- the size with which a model of so many faults is searched
abbrev pub size_for : Option ℕ → ℕ → ℕ
size_for None faults = faults
size_for (Some n) faults = min n faults

-- a chain of so many frames exists for the case with history, the event, and the listed sets of this size
abbrev pub HasChain : Case → Formula → ℕ → List (List ℕ) → ℕ → Type 0
HasChain c top size sets k =
    (tree : Tree FlatLeaf) × IsTopTree c top tree × HasChainFor (problem_of c.flat c.modes tree) size sets k

-- for all traces, or for those of at most as many steps as the depth, where a chain as long as the depth exists
abbrev pub EndsBy : Case → Formula → ℕ → ℕ → List (List ℕ) → Ending → Type 0
EndsBy c top size depth sets complete = Unit {0}
EndsBy c top size depth sets (bounded k) = (k ≡ depth) × HasChain c top size sets k

-- an analysis of the case for the top event, right for its size, that ends by the depth
pub record IsFound (c : Case) (top : Formula) (size depth : ℕ) (a : Analysis) : Type 0 where
  pub right : IsAnalysisOf c.program c.instructions c.faults c.flat top size a
  pub ends : EndsBy c top size depth a.sets a.ending

-- The bytes are the text in version 2 of a certificate of this size with these sets, and texts of these traces for them, which is
-- accepted for the flat model with its faults and the event: its invariant holds first, is kept by every step, and excludes each
-- unlisted bad state.
pub record IsCertificateFor (m : FlatModel) (fs : List Mode) (tree : Tree FlatLeaf) (size : ℕ) (sets : List (List ℕ))
    (shown : List (List (List Value))) (bytes : List ℕ) : Type 0 where
  pub certificate : Certificate
  pub spells : SpellsCertificate bytes certificate
  pub in_version_two : bytes ≡ fed (lines_of version_two certificate)
  pub accepted : IsCertified m fs tree (GivesTrace m) (subject_of (with_history m fs) m fs tree) certificate
  pub has_size : certificate.size ≡ size
  pub has_sets : certificate.sets ≡ sets
  pub has_texts : certificate.traces ≡ map (trace_lines m 0) shown
