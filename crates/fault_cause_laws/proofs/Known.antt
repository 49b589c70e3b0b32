-- What is known of the valuations of a trace while variables are added, and of the models.
use Rattle.std.proofs.Common.{◌≡◌, ℕ, zero, suc, ◌+◌, ◌<◌, ◌≤◌, Bool, List, [], ◌∷◌, ◌++◌, length, Some, refl, ap, ◌∙◌, sym, subst, arith}
use Rattle.std.proofs.lemmas.List.{length-append}
use Rattle.std.specs.Prelude.{slice_get}
use Rattle.smv_language.specs.Language.{Text, Value, symbol, FlatModel}
use Rattle.smv_flat_laws.specs.History.{Mode}
use Rattle.fault_cause_laws.specs.Additions.{Addition, with_addition, KnowsNames}
use Rattle.fault_cause_laws.specs.Columns.{with_value}
use Rattle.fault_cause_laws.proofs.Columns.{EachFrom, grown}
use Rattle.fault_cause_laws.proofs.AddedKnown.{AddsKnown, knows_added}
use Rattle.fault_cause_laws.specs.StagedModel.{mode_of}
use Rattle.fault_cause_laws.proofs.HitColumn.{ReadsMode}
use Rattle.base_values.proofs.ListLaws.{get_left}

-- the model knows its names, and the modes have variables and symbols of it
pub record IsReady (fs : List Mode) (wanted : ℕ → Text) (m : FlatModel) : Type 0 where
  pub knows : KnowsNames m
  pub symbol_of_mode : (i : ℕ) → 0 < i → i ≤ length fs → slice_get m.symbols (mode_of fs i).symbol ≡ Some (wanted i)
  pub variable_of_mode : (i : ℕ) → 0 < i → i ≤ length fs → (mode_of fs i).variable < length m.variables

pub ready_added : (fs : List Mode) (wanted : ℕ → Text) (m : FlatModel) (a : Addition) → IsReady fs wanted m →
    AddsKnown (length m.variables + length a.variables) (length m.symbols + length a.symbols) a → IsReady fs wanted (with_addition m a)
ready_added fs wanted m a ready adds =
    record {
      knows = knows_added m a ready.knows adds;
      symbol_of_mode = λ i low high. get_left m.symbols a.symbols (mode_of fs i).symbol (wanted i) (ready.symbol_of_mode i low high);
      variable_of_mode = λ i low high. wide (mode_of fs i).variable (length m.variables) (length (m.variables ++ a.variables)) (length a.variables) (ready.variable_of_mode i low high) (length-append m.variables a.variables);
    }
  where
    wide : (x n n' k : ℕ) → x < n → n' ≡ n + k → x < n'
    wide x n n' k h e = omega arith

-- what else is known lasts when values are added
abbrev pub Lasting : (ℕ → List Value → Type 0) → Type 0
Lasting others = (k : ℕ) (v : List Value) (b : Value) → others k v → others k (v ++ b ∷ [])

pub record Knows (fs : List Mode) (wanted : ℕ → Text) (stands : ℕ → ℕ → Bool) (total : ℕ) (others : ℕ → List Value → Type 0) (n k : ℕ) (v : List Value) : Type 0 where
  pub sized : length v ≡ n
  pub within : k < total
  pub modes : (i : ℕ) → 0 < i → i ≤ length fs → ReadsMode fs i (wanted i) stands k v
  pub more : others k v

pub reads_longer : (fs : List Mode) (i : ℕ) (wanted : Text) (stands : ℕ → ℕ → Bool) (k : ℕ) (v : List Value) (b : Value) → ReadsMode fs i wanted stands k v → ReadsMode fs i wanted stands k (v ++ b ∷ [])
reads_longer fs i wanted stands k v b r = record { text = r.text; has = get_left v (b ∷ []) (mode_of fs i).variable (symbol r.text) r.has; tells = r.tells }

module _ (fs : List Mode) (wanted : ℕ → Text) (stands : ℕ → ℕ → Bool) (total : ℕ) (others : ℕ → List Value → Type 0) (lasting : Lasting others) where
  abbrev K : ℕ → ℕ → List Value → Type 0
  K n k v = Knows fs wanted stands total others n k v

  knows_longer : (n k : ℕ) (v : List Value) (b : Value) → K n k v → K (n + 1) k (v ++ b ∷ [])
  knows_longer n k v b h =
      record {
        sized = length-append v (b ∷ []) ∙ ap (λ x. x + 1) h.sized;
        within = h.within;
        modes = λ i low high. reads_longer fs i (wanted i) stands k v b (h.modes i low high);
        more = lasting k v b h.more;
      }

  -- one more value for each
  pub known_value : (value : ℕ → Value) (n n' : ℕ) (vs : List (List Value)) → n' ≡ n + 1 → EachFrom (K n) 0 vs → EachFrom (K n') 0 (with_value value vs)
  known_value value n n' vs e h =
      subst (λ x. EachFrom (K x) 0 (with_value value vs)) (sym e) (grown (K n) (K (n + 1)) value 0 vs (λ k v. knows_longer n k v (value k)) h)

-- a fact of each number, from the list
pub at_number : {A : Type 0} (P : ℕ → Type 0) (k : ℕ) (vs : List A) → EachFrom (λ j v. P j) k vs → (j i : ℕ) → i ≡ k + j → j < length vs → P i
at_number P k [] h j i e l = absurd (omega arith)
at_number P k (v ∷ vs) h zero i e l = let same : k ≡ i = omega arith in subst P same h.0
at_number P k (v ∷ vs) h (suc j) i e l = at_number P (suc k) vs h.1 j i (omega arith) (omega arith)

-- a fact of each member by its number
pub from_each : {A : Type 0} (P : ℕ → A → Type 0) (k : ℕ) (vs : List A) → ((j i : ℕ) (v : A) → i ≡ k + j → slice_get vs j ≡ Some v → P i v) → EachFrom P k vs
from_each P k [] h = tt
from_each P k (v ∷ vs) h = (h 0 k v (omega arith) refl, from_each P (suc k) vs (λ j i w e. h (suc j) i w (omega arith)))
