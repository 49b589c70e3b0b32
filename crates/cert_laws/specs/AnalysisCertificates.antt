-- A certificate that is made of an analysis is accepted.
use Rattle.std.specs.Prelude.{◌≡◌, ℕ, suc, IsTrue, List, Some, All, slice_get}
use Rattle.smv_language.specs.Language.{Tree, Value, FlatLeaf, FlatModel}
use Rattle.smv_flat_laws.specs.History.{Mode}
use Rattle.smv_flat_laws.specs.FlatTrace.{IsFlatTrace}
use Rattle.sat_clauses.specs.Hints.{HasNoOpposites}
use Rattle.sat_clauses.specs.States.{IsOverBits}
use Rattle.cut_right_laws.specs.Sets.{IsRising, stands_before}
use Rattle.cut_right_laws.specs.Laws.{AreBoth}
use Rattle.sat_encoding_laws.specs.FlatTraces.{IsRightFlat}
use Rattle.cert_laws.specs.Certificate.{Certificate, Part}
use Rattle.cut_text_laws.specs.Lines.{Line}
use Rattle.cert_laws.specs.Acceptance.{Subject, HasNumbers}
use Rattle.cert_laws.specs.Derivations.{IsDerived}
use Rattle.cert_laws.specs.Certification.{IsSubjectOf, IsCertified}

module _ (reads : List Line → List (List Value) → Type 0) where
  -- the text gives the trace, and no other
  pub record GivesAlone (text : List Line) (trace : List (List Value)) : Type 0 where
    pub gives : reads text trace
    pub alone : (other : List (List Value)) → reads text other → other ≡ trace

  -- The certificate has the sets of an analysis that is right for all traces, in order and each rising, with texts of its traces;
  -- its invariant is over state bits, and its parts are derived.
  pub record IsOfAnalysis (m : FlatModel) (fs : List Mode) (top : Tree FlatLeaf) (subject : Subject) (c : Certificate) : Type 0 where
    pub numbers : HasNumbers subject c
    pub traces : List (List (List Value))
    pub right : IsRightFlat m fs top c.size (IsFlatTrace m) c.sets traces
    pub rising : (k : ℕ) (set : List ℕ) → slice_get c.sets k ≡ Some set → IsRising set
    pub in_order : (k : ℕ) (set next : List ℕ) → slice_get c.sets k ≡ Some set → slice_get c.sets (suc k) ≡ Some next →
        IsTrue (stands_before set next)
    pub texts : AreBoth GivesAlone c.traces traces
    pub over_bits : All (IsOverBits subject.system) c.invariant
    pub no_opposites : All HasNoOpposites c.invariant
    pub derived : (part : Part) → IsDerived subject c part

  -- it is accepted
  abbrev pub AnalysedIsAccepted : Type 0
  AnalysedIsAccepted =
      (m : FlatModel) (fs : List Mode) (top : Tree FlatLeaf) (subject : Subject) → IsSubjectOf m fs top subject → (c : Certificate) →
      IsOfAnalysis m fs top subject c → IsCertified m fs top reads subject c
