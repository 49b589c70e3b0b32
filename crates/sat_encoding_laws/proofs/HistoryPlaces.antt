-- The history bits are the last bits of the state.
use Rattle.std.proofs.Common.{◌≡◌, ℕ, zero, suc, ◌+◌, ◌<◌, ◌≤◌, List, [], ◌∷◌, ◌++◌, length, Option, Some, refl, sym, ◌∙◌, ap, subst, arith}
use Rattle.std.proofs.lemmas.List.Sums.{sum_by-cons, sum_by-append}
use Rattle.std.specs.Prelude.{slice_get, sum_by}
use Rattle.std.specs.List.{range_with_len}
use Rattle.smv_language.specs.Language.{Text, Each, FlatVariable, FlatModel}
use Rattle.smv_flat_laws.specs.History.{Mode, bit_variable, bit_variables, with_history}
use Rattle.smv_type_laws.specs.Costs.{state_bits}
use Rattle.sat_clauses.specs.Literal.{plain}
use Rattle.sat_encoding_laws.specs.Signals.{Signal, bit, literal_in}
use Rattle.sat_encoding_laws.specs.Layout.{state_width, input_width, literals_from, variable_signals, input_place}
use Rattle.sat_encoding_laws.specs.Lists.{signal_or_false, history_literals}
use Rattle.sat_encoding_laws.specs.Encodable.{IsStateBoolean}
use Rattle.sat_encoding_laws.specs.HistoryBits.{HistoryBitsAreLast}

-- a place past the first list
pub get_past : {A : Type 0} (xs ys : List A) (i : ℕ) → slice_get (xs ++ ys) (length xs + i) ≡ slice_get ys i
get_past [] ys i = let at : 0 + i ≡ i = omega arith in ap (slice_get ys) at
get_past (x ∷ xs) ys i = let at : suc (length xs) + i ≡ suc (length xs + i) = omega arith in ap (slice_get (x ∷ (xs ++ ys))) at ∙ get_past xs ys i

signals_past : (symbols : List Text) (p q : ℕ) (xs ys : List FlatVariable) (i : ℕ)
    → slice_get (variable_signals symbols p q (xs ++ ys)) (length xs + i) ≡ slice_get (variable_signals symbols (p + sum_by (state_width symbols) xs) (q + sum_by (input_width symbols) xs) ys) i
signals_past symbols p q [] ys i =
    let at : 0 + i ≡ i = omega arith in
    let pz : p ≡ p + sum_by (state_width symbols) [] = omega arith in
    let qz : q ≡ q + sum_by (input_width symbols) [] = omega arith in
    (λ j. slice_get (variable_signals symbols (pz j) (qz j) ys) (at j))
signals_past symbols p q (x ∷ xs) ys i =
    let at : suc (length xs) + i ≡ suc (length xs + i) = omega arith in
    let one = sum_by-cons (state_width symbols) x xs in
    let two = sum_by-cons (input_width symbols) x xs in
    let ps : p + state_width symbols x + sum_by (state_width symbols) xs ≡ p + sum_by (state_width symbols) (x ∷ xs) = omega (arith, one) in
    let qs : q + input_width symbols x + sum_by (input_width symbols) xs ≡ q + sum_by (input_width symbols) (x ∷ xs) = omega (arith, two) in
    ap (slice_get (variable_signals symbols p q ((x ∷ xs) ++ ys))) at ∙ signals_past symbols (p + state_width symbols x) (q + input_width symbols x) xs ys i
    ∙ (λ j. slice_get (variable_signals symbols (ps j) (qs j) ys) i)

-- the signal of a history bit
bit_signal : (symbols : List Text) (p q k : ℕ) (fs : List Mode) (i : ℕ) → i < length fs → slice_get (variable_signals symbols p q (bit_variables k fs)) i ≡ Some (bit (plain (p + i)))
bit_signal symbols p q k [] i h = absurd (omega (arith, h))
bit_signal symbols p q k (f ∷ fs) zero h = let at : p ≡ p + 0 = omega arith in ap (λ n. Some (bit (plain n))) at
bit_signal symbols p q k (f ∷ fs) (suc i) h =
    let at : p + 1 + i ≡ p + suc i = omega arith in
    bit_signal symbols (p + 1) (q + 0) (suc k) fs i (omega (arith, h)) ∙ ap (λ n. Some (bit (plain n))) at

bit_got : (k : ℕ) (fs : List Mode) (i : ℕ) → i < length fs → slice_get (bit_variables k fs) i ≡ Some (bit_variable (suc (k + i)))
bit_got k [] i h = absurd (omega (arith, h))
bit_got k (f ∷ fs) zero h = let at : k ≡ k + 0 = omega arith in ap (λ n. Some (bit_variable (suc n))) at
bit_got k (f ∷ fs) (suc i) h = let at : suc k + i ≡ k + suc i = omega arith in bit_got (suc k) fs i (omega (arith, h)) ∙ ap (λ n. Some (bit_variable (suc n))) at

bits_width : (symbols : List Text) (k : ℕ) (fs : List Mode) → sum_by (state_width symbols) (bit_variables k fs) ≡ length fs
bits_width symbols k [] = refl
bits_width symbols k (f ∷ fs) = let more = bits_width symbols (suc k) fs in sum_by-cons (state_width symbols) (bit_variable (suc k)) (bit_variables (suc k) fs) ∙ omega (arith, more)

module _ (m : FlatModel) (fs : List Mode) where
  -- a number past the model's own variables is that of a history bit
  pub is_bit : (i : ℕ) → i < length fs → IsStateBoolean (with_history m fs) (length m.variables + i)
  is_bit i h = record {
    variable = bit_variable (suc (0 + i));
    is_variable = get_past m.variables (bit_variables 0 fs) i ∙ bit_got 0 fs i h;
    is_boolean = refl;
    is_state = refl;
  }

  all_bits : (k i : ℕ) → i + k ≤ length fs → (n : ℕ) → n ≡ length m.variables + i → Each (IsStateBoolean (with_history m fs)) (range_with_len n k)
  all_bits zero i h n e = tt
  all_bits (suc k) i h n e = (subst (IsStateBoolean (with_history m fs)) (sym e) (is_bit i (omega (arith, h))), all_bits k (suc i) (omega (arith, h)) (n + 1) (omega (arith, e)))

  more_bits : state_bits (with_history m fs) ≡ state_bits m + length fs
  more_bits = sum_by-append (state_width m.symbols) m.variables (bit_variables 0 fs) ∙ ap (λ n. state_bits m + n) (bits_width m.symbols 0 fs)

  literals_last : (k i : ℕ) → i + k ≤ length fs → (n : ℕ) → n ≡ length m.variables + i → history_literals (with_history m fs) (range_with_len n k) ≡ literals_from k (state_bits m + 2 + i)
  literals_last zero i h n e = refl
  literals_last (suc k) i h n e =
      let q = input_place (with_history m fs) in
      let got : slice_get (variable_signals m.symbols 2 q (m.variables ++ bit_variables 0 fs)) n ≡ Some (bit (plain (2 + state_bits m + i))) =
      ap (slice_get (variable_signals m.symbols 2 q (m.variables ++ bit_variables 0 fs))) e ∙ signals_past m.symbols 2 q m.variables (bit_variables 0 fs) i
      ∙ bit_signal m.symbols (2 + state_bits m) (q + sum_by (input_width m.symbols) m.variables) 0 fs i (omega (arith, h)) in
      let at : 2 + state_bits m + i ≡ state_bits m + 2 + i = omega arith in
      let next : state_bits m + 2 + suc i ≡ state_bits m + 2 + i + 1 = omega arith in
      (λ j. (ap (λ (o : Option Signal). literal_in (signal_or_false o)) got ∙ ap plain at) j ∷ (literals_last k (suc i) (omega (arith, h)) (n + 1) (omega (arith, e)) ∙ ap (literals_from k) next) j)

pub history_last : HistoryBitsAreLast
history_last m fs =
    let at : length m.variables ≡ length m.variables + 0 = omega arith in
    let start : state_bits m + 2 + 0 ≡ state_bits m + 2 = omega arith in
    (all_bits m fs (length fs) 0 (omega arith) (length m.variables) at, more_bits m fs, literals_last m fs (length fs) 0 (omega arith) (length m.variables) at ∙ ap (literals_from (length fs)) start)
