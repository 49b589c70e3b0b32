-- What an accepted certificate shows of the traces of a flat model.
use Rattle.std.specs.Prelude.{◌≡◌, ℕ, ◌≤◌, List, length}
use Rattle.smv_language.specs.Language.{Tree, Value, Each, FlatLeaf, FlatModel}
use Rattle.smv_flat_laws.specs.History.{Mode, with_history}
use Rattle.smv_flat_laws.specs.FlatTrace.{IsFlatTrace}
use Rattle.cut_right_laws.specs.Laws.{AreBoth}
use Rattle.sat_encoding_laws.specs.Encodings.{IsBadListOf}
use Rattle.sat_encoding_laws.specs.FlatTraces.{ReachesTop, HasFailedNumber, IsNumbered, history_of, IsRightFlat}
use Rattle.sat_encoding_laws.specs.EncodedLaws.{AreOwn, IsEncoded}
use Rattle.cert_laws.specs.Certificate.{Certificate}
use Rattle.cut_text_laws.specs.Lines.{Line}
use Rattle.cert_laws.specs.Acceptance.{Subject, IsAccepted}

module _ (m : FlatModel) (fs : List Mode) (top : Tree FlatLeaf) where
  -- The subject is that of the model with history, its faults and the top event: the system encodes them, and the clauses of
  -- sets and a size are those of the states in which the top event is TRUE with at most so many faults and all faults of no set.
  pub record IsSubjectOf (subject : Subject) : Type 0 where
    pub faults : subject.faults ≡ length fs
    pub encoded : IsEncoded m fs subject.system
    pub bad : (sets : List (List ℕ)) (size : ℕ) → Each (IsNumbered (length fs)) sets → size ≤ length fs →
        IsBadListOf (with_history m fs) subject.system encoded.state_of top (history_of m fs) sets size (subject.bad sets size)

  -- the certificate has a trace text for each set, and is accepted
  pub record IsCertified (reads : List Line → List (List Value) → Type 0) (subject : Subject) (c : Certificate) : Type 0 where
    pub one_each : length c.traces ≡ length c.sets
    pub accepted : IsAccepted (List (List Value)) reads (IsFlatTrace m) (ReachesTop m top) (HasFailedNumber m fs) subject c

-- Its texts give traces, and with any traces that they give, its sets are right for all traces, of every length.
abbrev pub CertifiedIsRight : (List Line → List (List Value) → Type 0) → Type 0
CertifiedIsRight reads =
    (m : FlatModel) (fs : List Mode) (top : Tree FlatLeaf) → AreOwn m fs top → (subject : Subject) → IsSubjectOf m fs top subject →
    (c : Certificate) → IsCertified m fs top reads subject c →
    ((traces : List (List (List Value))) × AreBoth reads c.traces traces)
    × ((traces : List (List (List Value))) → AreBoth reads c.traces traces → IsRightFlat m fs top c.size (IsFlatTrace m) c.sets traces)
