-- The exact literals of the history bits tell with the bits of a valuation which faults have failed.
use Rattle.std.proofs.Common.{◌≡◌, ℕ, zero, suc, ◌+◌, ◌-◌, ◌<◌, ◌≤◌, Bool, true, false, cond, List, [], ◌∷◌, ◌++◌, length, Some, refl, sym, ap, ◌∙◌, subst, arith}
use Rattle.std.specs.Prelude.{slice_get, slice_index_or, sum_by, All}
use Rattle.std.specs.List.{range_with_len}
use Rattle.std.proofs.lemmas.List.Elements.{All-nil, All-cons}
use Rattle.std.proofs.lemmas.List.Sums.{sum_by-cons}
use Rattle.std.proofs.lemmas.Option.{same_Some}
use Rattle.smv_language.specs.Language.{Text, Role, state, input, frozen_role, Value, symbol, FlatVariable}
use Rattle.smv_language.specs.Values.{truth, number}
use Rattle.smv_flat_laws.specs.History.{Mode, bit_variables, with_history}
use Rattle.smv_flat_laws.specs.FlatTrace.{AreInDomains}
use Rattle.smv_type_laws.specs.Costs.{declared_width, role_width, state_bits}
use Rattle.sat_clauses.specs.Literal.{Literal, plain}
use Rattle.sat_clauses.specs.Models.{literal_value}
use Rattle.cut_frames.specs.Chain.{state_values}
use Rattle.cut_frames.specs.Minimal.{IsPlain}
use Rattle.sat_encoding_laws.specs.Bits.{value_number, value_bits, bits_of, state_of}
use Rattle.sat_encoding_laws.specs.Inputs.{is_input}
use Rattle.sat_encoding_laws.specs.Layout.{state_width, literals_from}
use Rattle.sat_encoding_laws.specs.Lists.{system_of}
use Rattle.sat_encoding_laws.specs.Encodings.{is_true_in, is_true_at, bit_of}
use Rattle.sat_encoding_laws.specs.FlatTraces.{history_of}
use Rattle.sat_encoding_laws.proofs.TypeBits.{length-number}
use Rattle.sat_encoding_laws.proofs.HistoryPlaces.{history_last}
use Rattle.cut_search_laws.specs.EncodedSearchLaws.{HistoryServes}
use Rattle.sat_encoding_laws.proofs.NumberWords.{length-literals}

-- ---- the bits of a valuation, by their places

bit_past : (xs ys : List Bool) (i : ℕ) → slice_index_or (xs ++ ys) (length xs + i) false ≡ slice_index_or ys i false
bit_past [] ys i = let at : 0 + i ≡ i = omega arith in ap (λ n. slice_index_or ys n false) at
bit_past (x ∷ xs) ys i = let at : suc (length xs) + i ≡ suc (length xs + i) = omega arith in ap (λ n. slice_index_or (x ∷ (xs ++ ys)) n false) at ∙ bit_past xs ys i

-- one variable's bits of the state are as many as its width there
own_long : (r : Role) (bs : List Bool) (w : ℕ) → length bs ≡ w → length (cond (is_input r) (cond false bs []) (cond false [] bs)) ≡ role_width r w
own_long state bs w e = e
own_long frozen_role bs w e = e
own_long input bs w e = refl

module _ (symbols : List Text) where
  -- those of history bits alone
  own_bit : (k : ℕ) (fs : List Mode) (us : List Value) (i : ℕ) → AreInDomains (bit_variables k fs) us → i < length fs → slice_index_or (bits_of symbols false (bit_variables k fs) us) i false ≡ is_true_at us i
  own_bit k [] us i h l = absurd (omega (arith, l))
  own_bit k (f ∷ fs) [] i h l = absurd h
  own_bit k (f ∷ fs) (truth true ∷ us) zero h l = refl
  own_bit k (f ∷ fs) (truth false ∷ us) zero h l = refl
  own_bit k (f ∷ fs) (number n ∷ us) zero h l = let never = h.0 in cc
  own_bit k (f ∷ fs) (symbol x ∷ us) zero h l = let never = h.0 in cc
  own_bit k (f ∷ fs) (truth true ∷ us) (suc i) h l = own_bit (suc k) fs us i h.1 (omega (arith, l))
  own_bit k (f ∷ fs) (truth false ∷ us) (suc i) h l = own_bit (suc k) fs us i h.1 (omega (arith, l))
  own_bit k (f ∷ fs) (number n ∷ us) (suc i) h l = let never = h.0 in cc
  own_bit k (f ∷ fs) (symbol x ∷ us) (suc i) h l = let never = h.0 in cc

  -- and after those of other variables
  later_bit : (xs : List FlatVariable) (fs : List Mode) (us : List Value) (i : ℕ) → AreInDomains (xs ++ bit_variables 0 fs) us → i < length fs →
      slice_index_or (bits_of symbols false (xs ++ bit_variables 0 fs) us) (sum_by (state_width symbols) xs + i) false ≡ is_true_at us (length xs + i)
  later_bit [] fs us i h l =
      let left : sum_by (state_width symbols) [] + i ≡ i = omega arith in
      let right : 0 + i ≡ i = omega arith in
      ap (λ n. slice_index_or (bits_of symbols false (bit_variables 0 fs) us) n false) left ∙ own_bit 0 fs us i h l ∙ ap (is_true_at us) (sym right)
  later_bit (x ∷ xs) fs [] i h l = absurd h
  later_bit (x ∷ xs) fs (u ∷ us) i h l =
      let own : List Bool = cond (is_input x.role) (cond false (value_bits symbols x.declared u) []) (cond false [] (value_bits symbols x.declared u)) in
      let rest : List Bool = bits_of symbols false (xs ++ bit_variables 0 fs) us in
      let long : length own ≡ state_width symbols x = own_long x.role (value_bits symbols x.declared u) (declared_width symbols x.declared) (length-number (declared_width symbols x.declared) (value_number symbols u)) in
      let sum = sum_by-cons (state_width symbols) x xs in
      let at : sum_by (state_width symbols) (x ∷ xs) + i ≡ length own + (sum_by (state_width symbols) xs + i) = omega (arith, sum, long) in
      let next : suc (length xs + i) ≡ suc (length xs) + i = omega arith in
      ap (λ n. slice_index_or (own ++ rest) n false) at ∙ bit_past own rest (sum_by (state_width symbols) xs + i) ∙ later_bit xs fs us i h.1 l
      ∙ ap (is_true_at (u ∷ us)) next

-- ---- literals in a row

row_at : (k n i : ℕ) (l : Literal) → slice_get (literals_from k n) i ≡ Some l → (l ≡ plain (n + i)) × (i < k)
row_at zero n i l e = cc
row_at (suc k) n zero l e = let at : n ≡ n + 0 = omega arith in (sym (same_Some (plain n) l e) ∙ ap plain at, omega arith)
row_at (suc k) n (suc i) l e =
    let more = row_at k (n + 1) i l e in
    let at : n + 1 + i ≡ n + suc i = omega arith in
    (more.0 ∙ ap plain at, let below = more.1 in omega (arith, below))

row_over : (k n bits : ℕ) → 2 ≤ n → n + k ≤ bits + 2 → All (λ l. (2 ≤ l.var) × (l.var < bits + 2)) (literals_from k n)
row_over zero n bits low high = All-nil (λ l. (2 ≤ l.var) × (l.var < bits + 2))
row_over (suc k) n bits low high = All-cons (λ l. (2 ≤ l.var) × (l.var < bits + 2)) (plain n) (literals_from k (n + 1)) (low, omega (arith, high)) (row_over k (n + 1) bits (omega (arith, low)) (omega (arith, high)))

row_plain : (k n : ℕ) → All IsPlain (literals_from k n)
row_plain zero n = All-nil IsPlain
row_plain (suc k) n = All-cons IsPlain (plain n) (literals_from k (n + 1)) refl (row_plain k (n + 1))

-- a number in a row of them
got_number : (a n i : ℕ) → i < n → slice_get (range_with_len a n) i ≡ Some (a + i)
got_number a zero i l = absurd (omega (arith, l))
got_number a (suc n) zero l = let at : a ≡ a + 0 = omega arith in ap Some at
got_number a (suc n) (suc i) l = let at : a + 1 + i ≡ a + suc i = omega arith in got_number (a + 1) n i (omega (arith, l)) ∙ ap Some at

pub history_serves : HistoryServes
history_serves m fs top =
    let last = history_last m fs in
    record {
      one_each = ap length last.2 ∙ length-literals (length fs) (state_bits m + 2);
      over_bits =
          subst (All (λ l. (2 ≤ l.var) × (l.var < state_bits (with_history m fs) + 2))) (sym last.2)
          (row_over (length fs) (state_bits m + 2) (state_bits (with_history m fs)) (omega arith) (let more = last.1 in omega (arith, more)));
      positive = subst (All IsPlain) (sym last.2) (row_plain (length fs) (state_bits m + 2));
      tells = λ v inside i l e. tells v inside i l (ap (λ ls. slice_get ls i) (sym last.2) ∙ e);
    }
  where
    tells : (v : List Value) → AreInDomains (with_history m fs).variables v → (i : ℕ) (l : Literal) → slice_get (literals_from (length fs) (state_bits m + 2)) i ≡ Some l →
        literal_value (state_values (system_of (with_history m fs)) (state_of (with_history m fs) v)) l ≡ bit_of (history_of m fs) v (i + 1)
    tells v inside i l e =
        let at = row_at (length fs) (state_bits m + 2) i l e in
        let place : state_bits m + 2 + i - 2 ≡ state_bits m + i = omega arith in
        let number : i + 1 - 1 ≡ i = omega arith in
        ap (literal_value (state_values (system_of (with_history m fs)) (state_of (with_history m fs) v))) at.0
        ∙ ap (λ n. slice_index_or (state_of (with_history m fs) v) n false) place
        ∙ later_bit m.symbols m.variables fs v i inside at.1
        ∙ sym (ap (λ n. is_true_in v (slice_get (range_with_len (length m.variables) (length fs)) n)) number ∙ ap (is_true_in v) (got_number (length m.variables) (length fs) i at.1))
