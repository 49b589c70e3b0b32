-- Some moment at which a mode stands, and the first one.
use Rattle.std.proofs.Common.{◌≡◌, ℕ, zero, suc, ◌+◌, ◌-◌, ◌<◌, ◌≤◌, Bool, true, false, ◌||◌, List, [], ◌∷◌, length, map, Option, Some, None, refl, ◌∙◌, sym, subst, arith, inl, inr}
use Rattle.std.specs.Prelude.{slice_get, ◌↔◌}
use Rattle.smv_language.specs.Language.{Value, FlatModel}
use Rattle.smv_flat_laws.specs.History.{Mode}
use Rattle.smv_flat_laws.specs.FlatTrace.{IsFlatTrace, stands, stands_in_some}
use Rattle.sat_encoding_laws.specs.FlatTraces.{HasFailedNumber}
use Rattle.fault_cause_laws.proofs.Columns.{EachFrom}
use Rattle.fault_cause_laws.specs.Causes.{CommonCause}
use Rattle.fault_cause_laws.specs.CausedEvents.{IsFree, AreCaused, BeginsFreely, HasHappened}
use Rattle.fault_cause_laws.specs.StagedModel.{mode_of}
use Rattle.fault_cause_laws.specs.StagedValues.{stands_there}
use Rattle.fault_cause_laws.specs.Laws.{AreStaged, StandsAt, IsCausedTrace}
use Rattle.fault_cause_laws.proofs.StagedTraces.{mode_there}
use Rattle.std.proofs.lemmas.Bool.{or_left, or_right}
use Rattle.std.proofs.lemmas.Option.{slice_get_within as within_of}
use Rattle.smv_language.proofs.BoolLaws.{or_cases}

pub stood_from : (m : FlatModel) (f : Mode) (g : ℕ → Bool) (k : ℕ) (vs : List (List Value)) → EachFrom (λ j v. stands m f v ≡ g j) k vs → stands_in_some m f vs ≡ true → (j : ℕ) × (k ≤ j) × (j < k + length vs) × (g j ≡ true)
stood_from m f g k [] h e = cc
stood_from m f g k (v ∷ vs) h e = elim (or_cases (stands m f v) (stands_in_some m f vs) e) [ inl a ↦ (k, omega arith, omega arith, sym h.0 ∙ a) | inr b ↦ later (stood_from m f g (suc k) vs h.1 b) ]
  where
    later : (j : ℕ) × (suc k ≤ j) × (j < suc k + length vs) × (g j ≡ true) → (j : ℕ) × (k ≤ j) × (j < k + suc (length vs)) × (g j ≡ true)
    later x = (x.0, omega (arith, x.1), omega (arith, x.2), x.3)

pub stood_to : (m : FlatModel) (f : Mode) (g : ℕ → Bool) (k : ℕ) (vs : List (List Value)) → EachFrom (λ j v. stands m f v ≡ g j) k vs → (j i : ℕ) → i ≡ k + j → j < length vs → g i ≡ true → stands_in_some m f vs ≡ true
stood_to m f g k [] h j i e l t = absurd (omega arith)
stood_to m f g k (v ∷ vs) h zero i e l t = let same : i ≡ k = omega arith in or_left (stands m f v) (stands_in_some m f vs) (h.0 ∙ subst (λ x. g x ≡ true) same t)
stood_to m f g k (v ∷ vs) h (suc j) i e l t = or_right (stands m f v) (stands_in_some m f vs) (stood_to m f g (suc k) vs h.1 j i (omega arith) (omega arith) t)

-- the first moment
pub stood_first : (m : FlatModel) (f : Mode) (vs : List (List Value)) → stands_in_some m f vs ≡ true → (k : ℕ) × (k < length vs) × (stands_there m f (slice_get vs k) ≡ true) × ((j : ℕ) → j < k → stands_there m f (slice_get vs j) ≡ true → ⊥)
stood_first m f [] e = cc
stood_first m f (v ∷ vs) e = by_test (stands m f v) refl (stood_first m f vs)
  where
    by_test : (b : Bool) → stands m f v ≡ b →
        (stands_in_some m f vs ≡ true → (k : ℕ) × (k < length vs) × (stands_there m f (slice_get vs k) ≡ true) × ((j : ℕ) → j < k → stands_there m f (slice_get vs j) ≡ true → ⊥)) →
        (k : ℕ) × (k < length (v ∷ vs)) × (stands_there m f (slice_get (v ∷ vs) k) ≡ true) × ((j : ℕ) → j < k → stands_there m f (slice_get (v ∷ vs) j) ≡ true → ⊥)
    by_test true is go = (0, omega arith, is, λ j l t. absurd (omega arith))
    by_test false is go = later (go (subst (λ b. (b || stands_in_some m f vs) ≡ true) is e))
      where
        later : (k : ℕ) × (k < length vs) × (stands_there m f (slice_get vs k) ≡ true) × ((j : ℕ) → j < k → stands_there m f (slice_get vs j) ≡ true → ⊥) →
            (k : ℕ) × (k < length (v ∷ vs)) × (stands_there m f (slice_get (v ∷ vs) k) ≡ true) × ((j : ℕ) → j < k → stands_there m f (slice_get (v ∷ vs) j) ≡ true → ⊥)
        later x = (suc x.0, omega (arith, x.1), x.2, λ j l t. before j l t)
          where
            before : (j : ℕ) → j < suc x.0 → stands_there m f (slice_get (v ∷ vs) j) ≡ true → ⊥
            before zero l t = let bad : true ≡ false = sym t ∙ is in cc
            before (suc j) l t = x.3 j (omega arith) t

pub stood_there : (m : FlatModel) (f : Mode) (vs : List (List Value)) (k : ℕ) → stands_there m f (slice_get vs k) ≡ true → stands_in_some m f vs ≡ true
stood_there m f [] k e = cc
stood_there m f (v ∷ vs) zero e = or_left (stands m f v) (stands_in_some m f vs) e
stood_there m f (v ∷ vs) (suc k) e = or_right (stands m f v) (stands_in_some m f vs) (stood_there m f vs k e)

-- the mode of a number that the list has
pub mode_same : (fs : List Mode) (i : ℕ) (f : Mode) → slice_get fs (i - 1) ≡ Some f → mode_of fs i ≡ f
mode_same fs i f e =
    inner (mode_of fs i) f (sym (mode_there fs (i - 1) (record { variable = 0; symbol = 0 }) (within_of fs (i - 1) f e)) ∙ e)
  where
    inner : (a b : Mode) → Some a ≡ Some b → a ≡ b
    inner a b e = cc

-- Where no cause has a moment.
pub no_times : (cs : List CommonCause) (j t : ℕ) → slice_get (map (λ c. None) cs) j ≡ Some (Some t) → ⊥
no_times [] j t e = cc
no_times (c ∷ cs) zero t e = let bad : None ≡ Some t = inner None (Some t) e in cc
  where
    inner : (a b : Option ℕ) → Some a ≡ Some b → a ≡ b
    inner a b e = cc
no_times (c ∷ cs) (suc j) t e = no_times cs j t e

pub none_occur : (total : ℕ) (Stands : ℕ → ℕ → Type 0) (cs : List CommonCause) → AreCaused total Stands cs (map (λ c. None) cs)
none_occur total Stands [] = tt
none_occur total Stands (c ∷ cs) = (tt, none_occur total Stands cs)

pub all_free : (i k : ℕ) (cs : List CommonCause) → IsFree cs (map (λ c. None) cs) i k
all_free i k [] = tt
all_free i k (c ∷ cs) = ((λ e w. w), all_free i k cs)

module _ (m : FlatModel) (fs : List Mode) (cs : List CommonCause) (trace : List (List Value)) where
  abbrev none : List (Option ℕ)
  none = map (λ c. None) cs

  to_failed : (i : ℕ) → HasHappened (length trace) (StandsAt m fs trace) (length fs) cs none i → HasFailedNumber m fs trace i
  to_failed i (inl h) =
      let begun : BeginsFreely (length trace) (StandsAt m fs trace) cs none i h.2.0 = h.2.1 in
      (mode_of fs i, h.0, mode_there fs (i - 1) (record { variable = 0; symbol = 0 }) (omega (arith, h.0, h.1)), stood_there m (mode_of fs i) trace h.2.0 begun.begins)
  to_failed i (inr h) = absurd (no_times cs (i - length fs - 1) h.1.0 h.1.1)

  from_failed : (i : ℕ) → HasFailedNumber m fs trace i → HasHappened (length trace) (StandsAt m fs trace) (length fs) cs none i
  from_failed i h =
      let same : mode_of fs i ≡ h.0 = mode_same fs i h.0 h.2 in
      let first : (k : ℕ) × (k < length trace) × (stands_there m (mode_of fs i) (slice_get trace k) ≡ true) × ((j : ℕ) → j < k → stands_there m (mode_of fs i) (slice_get trace j) ≡ true → ⊥) =
      stood_first m (mode_of fs i) trace (subst (λ (f : Mode). stands_in_some m f trace ≡ true) (sym same) h.3) in
      inl (
        h.1,
        within_number i (within_of fs (i - 1) h.0 h.2),
        (
          first.0,
          record {
            within = first.1;
            begins = first.2;
            not_before = λ j e t. first.3 j (omega (arith, e)) t;
            free = all_free i first.0 cs;
          },
        ),
      )
    where
      within_number : (i : ℕ) → i - 1 < length fs → i ≤ length fs
      within_number i l = omega arith

pub uncaused : (m : FlatModel) (fs : List Mode) (cs : List CommonCause) → AreStaged m fs cs → (trace : List (List Value)) →
    (IsCausedTrace m fs cs trace (map (λ c. None) cs) ↔ IsFlatTrace m trace)
    × ((i : ℕ) → HasHappened (length trace) (StandsAt m fs trace) (length fs) cs (map (λ c. None) cs) i ↔ HasFailedNumber m fs trace i)
uncaused m fs cs are trace = (
  ((λ h. h.is_trace), (λ h. record { is_trace = h; caused = none_occur (length trace) (StandsAt m fs trace) cs })),
  (λ i. (to_failed m fs cs trace i, from_failed m fs cs trace i)),
)
