-- What the history bits of the last valuation of a trace tell of the faults that it has failed.
use Rattle.std.proofs.Common.{◌≡◌, ℕ, zero, suc, ◌+◌, ◌-◌, ◌<◌, ◌≤◌, Bool, true, false, ◌&&◌, List, [], ◌∷◌, ◌++◌, length, map, refl, sym, ap, ◌∙◌, subst, arith, ◌⊎◌, inl, inr}
use Rattle.std.proofs.lemmas.List.{append_assoc}
use Rattle.std.specs.Prelude.{slice_get, slice_index_or, Contains, if◌then◌else◌}
use Rattle.std.specs.List.{range_with_len}
use Rattle.smv_language.specs.Language.{Value, Each, AtSome, AtLast, FlatModel}
use Rattle.smv_language.specs.Values.{truth}
use Rattle.smv_flat_laws.specs.History.{Mode}
use Rattle.smv_flat_laws.specs.FlatTrace.{IsFlatTrace, stands_in_some, bits_after, told_from}
use Rattle.smv_flat_laws.proofs.Lists.{length_end}
use Rattle.smv_flat_laws.proofs.HistoryTraces.{get_middle}
use Rattle.cut_right_laws.specs.Right.{HasFailedExactly}
use Rattle.cut_right_laws.specs.Sets.{has_number, is_contained}
use Rattle.sat_encoding_laws.specs.FlatTraces.{IsNumbered}
use Rattle.sat_encoding_laws.specs.Encodings.{is_true_value, is_true_at, is_true_in, bit_of}
use Rattle.sat_encoding_laws.specs.FlatTraces.{HasFailedNumber, numbers_where, failed_set, last_of, history_of, failed_in}
use Rattle.sat_encoding_laws.proofs.SetLaws.{true_or_false, has_contains, contains_has}
use Rattle.sat_encoding_laws.proofs.Numbers.{where_has, where_from, where_to, where_rising, no_more_numbers}
use Rattle.std.proofs.lemmas.Bool.{and_parts, and_from as and_both, false_from_ne_true as refuted}
use Rattle.smv_language.proofs.BoolLaws.{not_both}

-- What holds of the last.
pub at_last : (P : List Value → Type 0) (v : List Value) (vs : List (List Value)) → AtLast P (v ∷ vs) → P (last_of (v ∷ vs))
at_last P v [] h = h
at_last P v (w ∷ vs) h = at_last P w vs h

pub to_last : (P : List Value → Type 0) (v : List Value) (vs : List (List Value)) → P (last_of (v ∷ vs)) → AtLast P (v ∷ vs)
to_last P v [] h = h
to_last P v (w ∷ vs) h = to_last P w vs h

pub each_last : (P : List Value → Type 0) (v : List Value) (vs : List (List Value)) → Each P (v ∷ vs) → P (last_of (v ∷ vs))
each_last P v [] h = h.0
each_last P v (w ∷ vs) h = each_last P w vs h.1

-- the last valuation with history is the last one, and the bits of the whole trace
pub last_told : (m : FlatModel) (fs : List Mode) (before : List (List Value)) (v : List Value) (vs : List (List Value)) →
    last_of (told_from m fs before (v ∷ vs)) ≡ last_of (v ∷ vs) ++ bits_after m fs (before ++ v ∷ vs)
last_told m fs before v [] = refl
last_told m fs before v (w ∷ ws) =
    last_told m fs (before ++ v ∷ []) w ws ∙ ap (λ moments. last_of (w ∷ ws) ++ bits_after m fs moments) (append_assoc before (v ∷ []) (w ∷ ws))

-- The bits, by their numbers.
module _ (g : Mode → Bool) where
  pub bits_tell : (fs : List Mode) (own u : List Value) (k : ℕ) → u ≡ own ++ map (λ f. truth (g f)) fs →
      numbers_where (is_true_at u) k (range_with_len (length own) (length fs)) ≡ numbers_where g k fs
  bits_tell [] own u k is = refl
  bits_tell (f ∷ fs) own u k is =
      both (is_true_at u (length own)) (g f) (ap is_true_value (ap (λ x. slice_get x (length own)) is ∙ get_middle own (map (λ f. truth (g f)) fs) (truth (g f))))
      (numbers_where (is_true_at u) (suc k) (range_with_len (length own + 1) (length fs))) (numbers_where g (suc k) fs)
      (subst (λ n. numbers_where (is_true_at u) (suc k) (range_with_len n (length fs)) ≡ numbers_where g (suc k) fs) (one_more own (truth (g f)))
      (bits_tell fs (own ++ truth (g f) ∷ []) u (suc k) (is ∙ sym (append_assoc own (truth (g f) ∷ []) (map (λ f. truth (g f)) fs)))))
    where
      one_more : (own : List Value) (x : Value) → length (own ++ x ∷ []) ≡ length own + 1
      one_more own x = length_end own x ∙ plus (length own)
        where
          plus : (n : ℕ) → suc n ≡ n + 1
          plus n = omega arith

      both : (b c : Bool) → b ≡ c → (xs ys : List ℕ) → xs ≡ ys → (if b then k ∷ xs else xs) ≡ (if c then k ∷ ys else ys)
      both b c e xs ys h = rw (e, h) refl

-- the bits of the last valuation give the failed set
pub last_tells : (m : FlatModel) (fs : List Mode) (trace : List (List Value)) (own : List Value) → length own ≡ length m.variables →
    failed_in (history_of m fs) (own ++ bits_after m fs trace) ≡ failed_set m fs trace
last_tells m fs trace own e =
    subst (λ n. numbers_where (is_true_at (own ++ bits_after m fs trace)) 1 (range_with_len n (length fs)) ≡ failed_set m fs trace) e
    (bits_tell (λ f. stands_in_some m f trace) fs own (own ++ bits_after m fs trace) 1 refl)

pub range_length : (n count : ℕ) → length (range_with_len n count) ≡ count
range_length n zero = refl
range_length n (suc count) = ap suc (range_length (n + 1) count)

-- A set has a bit that is FALSE exactly where it is not contained in what the bits tell.
module _ (history : List ℕ) (u : List Value) where
  -- within the list a place has its number
  bit_placed : (xs : List ℕ) (k : ℕ) → k < length xs → is_true_at u (slice_index_or xs k 0) ≡ is_true_in u (slice_get xs k)
  bit_placed [] k h = absurd (omega (arith, h))
  bit_placed (x ∷ xs) zero h = refl
  bit_placed (x ∷ xs) (suc k) h = bit_placed xs k (omega (arith, h))

  bit_tells : (i : ℕ) → 1 ≤ i → i ≤ length history → has_number (failed_in history u) i ≡ bit_of history u i
  bit_tells i low high = subst (λ n. has_number (failed_in history u) n ≡ bit_of history u i) (back i low) (where_has (is_true_at u) 0 1 history (i - 1) (within i (length history) low high) ∙ bit_placed history (i - 1) (within i (length history) low high))
    where
      back : (i : ℕ) → 1 ≤ i → 1 + (i - 1) ≡ i
      back i low = omega (arith, low)

      within : (i n : ℕ) → 1 ≤ i → i ≤ n → i - 1 < n
      within i n low high = omega (arith, low, high)

  pub unlisted_means : (set : List ℕ) → IsNumbered (length history) set → AtSome (λ i. bit_of history u i ≡ false) set → is_contained set (failed_in history u) ≡ false
  unlisted_means [] n h = absurd h
  unlisted_means (i ∷ set) n (inl e) = rw (bit_tells i n.0.0 n.0.1 ∙ e) refl
  unlisted_means (i ∷ set) n (inr h) = refuted (has_number (failed_in history u) i && is_contained set (failed_in history u))
      (λ t. not_both (is_contained set (failed_in history u)) (and_parts (has_number (failed_in history u) i) (is_contained set (failed_in history u)) t).1 (unlisted_means set n.1 h))

  pub unlisted_comes : (set : List ℕ) → IsNumbered (length history) set → is_contained set (failed_in history u) ≡ false → AtSome (λ i. bit_of history u i ≡ false) set
  unlisted_comes [] n h = cc
  unlisted_comes (i ∷ set) n h = by_bit (true_or_false (has_number (failed_in history u) i)) (λ g. unlisted_comes set n.1 g)
    where
      by_bit : (has_number (failed_in history u) i ≡ true) ⊎ (has_number (failed_in history u) i ≡ false) → (is_contained set (failed_in history u) ≡ false → AtSome (λ i. bit_of history u i ≡ false) set) →
          AtSome (λ i. bit_of history u i ≡ false) (i ∷ set)
      by_bit (inl e) more = inr (more (refuted (is_contained set (failed_in history u)) (λ t. not_both (is_contained (i ∷ set) (failed_in history u)) (and_both (has_number (failed_in history u) i) (is_contained set (failed_in history u)) e t) h)))
      by_bit (inr e) more = inl (sym (bit_tells i n.0.0 n.0.1) ∙ e)

-- The failed set has exactly the faults that failed, and no more than may have.
module _ (m : FlatModel) (fs : List Mode) (trace : List (List Value)) where
  has_failed_means : (i : ℕ) → has_number (failed_set m fs trace) i ≡ true → HasFailedNumber m fs trace i
  has_failed_means i h = where_from (λ f. stands_in_some m f trace) 1 fs i h

  has_failed_comes : (i : ℕ) → HasFailedNumber m fs trace i → has_number (failed_set m fs trace) i ≡ true
  has_failed_comes i h = subst (λ n. has_number (failed_set m fs trace) n ≡ true) (back i h.1) (where_to (λ f. stands_in_some m f trace) 1 fs (i - 1) h.0 h.2 h.3)
    where
      back : (i : ℕ) → 0 < i → 1 + (i - 1) ≡ i
      back i low = omega (arith, low)

  pub failed_exactly : HasFailedExactly (List (List Value)) (IsFlatTrace m) (λ t. Unit {0}) (HasFailedNumber m fs) trace (failed_set m fs trace)
  failed_exactly i = ((λ h. has_contains (failed_set m fs trace) i (has_failed_comes i h)), (λ h. has_failed_means i (contains_has (failed_set m fs trace) i h)))

  pub failed_small : (n : ℕ) → ((numbers : List ℕ) × (length numbers ≤ n) × ((i : ℕ) → HasFailedNumber m fs trace i → Contains numbers i)) → length (failed_set m fs trace) ≤ n
  failed_small n h =
      through (length (failed_set m fs trace)) (length h.0) n
      (no_more_numbers (failed_set m fs trace) h.0 (where_rising (λ f. stands_in_some m f trace) 1 fs) (λ i e. contains_has h.0 i (h.2 i (has_failed_means i e)))) h.1
    where
      through : (a b c : ℕ) → a ≤ b → b ≤ c → a ≤ c
      through a b c l k = omega (arith, l, k)
