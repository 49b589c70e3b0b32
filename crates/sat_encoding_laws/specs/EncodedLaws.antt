-- The law of invariants over the clause lists of a model with history.
use Rattle.std.specs.Prelude.{ℕ, Bool, List, Contains, length}
use Rattle.smv_language.specs.Language.{Tree, Value, Each, FlatLeaf, FlatModel}
use Rattle.smv_flat_laws.specs.History.{Mode, with_history}
use Rattle.smv_flat_laws.specs.FlatTrace.{IsFlatTrace, NamesOwn, IsModeOf}
use Rattle.sat_clauses.specs.Literal.{Literal}
use Rattle.sat_clauses.specs.declared.system.System.{System}
use Rattle.sat_clauses.specs.States.{IsInvariant}
use Rattle.cut_right_laws.specs.Right.{HasFailedAll, HasFailedAtMost}
use Rattle.sat_encoding_laws.specs.Encodings.{IsEncodingOf, IsBadListOf}
use Rattle.sat_encoding_laws.specs.FlatTraces.{ReachesTop, HasFailedNumber, IsNumbered, ReadsOwn, history_of}

-- A model, its faults and a top event read the model's own variables, and the faults are modes of it.
pub record AreOwn (m : FlatModel) (fs : List Mode) (top : Tree FlatLeaf) : Type 0 where
  pub names_own : NamesOwn m
  pub modes : Each (IsModeOf m) fs
  pub top_own : ReadsOwn m top

-- The system of clause lists encodes the model with the history of its faults.
pub record IsEncoded (m : FlatModel) (fs : List Mode) (system : System) : Type 0 where
  pub state_of : List Value → List Bool
  pub inputs_of : List Value → List Bool
  pub encoding : IsEncodingOf (with_history m fs) system state_of inputs_of

module _ (m : FlatModel) (fs : List Mode) (top : Tree FlatLeaf) where
  -- each reaching trace that has failed at most so many faults has failed all faults of some listed set
  abbrev pub AreCovered : ℕ → List (List ℕ) → Type 0
  AreCovered size sets =
      (trace : List (List Value)) → IsFlatTrace m trace → ReachesTop m top trace →
      HasFailedAtMost (List (List Value)) (IsFlatTrace m) (ReachesTop m top) (HasFailedNumber m fs) size trace →
      (set : List ℕ) × Contains sets set
      × HasFailedAll (List (List Value)) (IsFlatTrace m) (ReachesTop m top) (HasFailedNumber m fs) trace set

-- an invariant that excludes the bad states of listed sets shows that they cover all traces, of every length
abbrev pub InvariantsCover : Type 0
InvariantsCover =
    (m : FlatModel) (fs : List Mode) (top : Tree FlatLeaf) → AreOwn m fs top →
    (system : System) (encoded : IsEncoded m fs system) (size : ℕ) (sets : List (List ℕ)) →
    Each (IsNumbered (length fs)) sets → (bad clauses : List (List Literal)) →
    IsBadListOf (with_history m fs) system encoded.state_of top (history_of m fs) sets size bad → IsInvariant system bad clauses →
    AreCovered m fs top size sets
