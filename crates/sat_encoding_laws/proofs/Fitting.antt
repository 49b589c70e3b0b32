-- The words of kinds hold their values.
use Rattle.std.proofs.Common.{◌≡◌, ℕ, suc, ◌-◌, ◌^◌, ◌<◌, ◌≤◌, max, true, ℤ, pos, negsuc, ◌≤ℤ◌, List, length, w64, ap, subst, arith}
use Rattle.std.specs.Prelude.{FitsSigned}
use Rattle.std.proofs.lemmas.Int.{ints}
use Rattle.std.proofs.lemmas.Bool.{ltb-true}
use Rattle.std.proofs.Math.Nat.{pow-le-pow_right}
use Rattle.smv_language.specs.ProgramTree.{Text}
use Rattle.smv_type_laws.specs.Intervals.{Interval, IsIn, fits_number, fits}
use Rattle.smv_type_laws.specs.Costs.{digits_of}
use Rattle.smv_type_laws.proofs.Widths.{digits_are}
use Rattle.sat_clauses.specs.Literal.{Literal}
use Rattle.sat_clauses.specs.Models.{TotalAssignment}
use Rattle.sat_circuits.specs.Bits.{IsCutTo}
use Rattle.sat_circuits.specs.Words.{word_value, fit}
use Rattle.sat_circuits.specs.Numbers.{number_word}
use Rattle.sat_circuits.proofs.Orders.{Fits, exact}
use Rattle.sat_circuits.proofs.WordMeans.{word_value-fit, Fits-word, length-fit}
use Rattle.sat_circuits.proofs.DigitMeans.{number_word-value}
use Rattle.smv_lexer.proofs.SignLemmas.{both_true}
use Rattle.sat_encoding_laws.specs.Widths.{digits_beside_sign, word_width, symbol_width}

-- ---- widths

-- of a number with so many digits each with no more fits
fits_digits : (n d most : ℕ) → n < 2 ^ d → d ≤ most → (k : ℕ) → k ≤ n → k < 2 ^ most
fits_digits n d most h le k q = let more = pow-le-pow_right {n = 2} (omega arith) {i = d} {j = most} le in omega arith

pub digits_below : (n : ℕ) → n < 2 ^ 63 → n < 2 ^ digits_of n
digits_below n h = (digits_are 64 n (omega arith)).below

-- a number with that many digits, or turned over where it is below 0, fits one bit more
fits_above : (k most : ℕ) → k < 2 ^ most → Fits (suc most) (pos k)
fits_above k most h =
    let less : 2 ^ (suc most - 1) ≡ 2 ^ most = ap (λ i. 2 ^ i) (omega arith) in
    record { low = omega (arith, ints, less); high = omega (arith, ints, less) }

fits_under : (k most : ℕ) → k < 2 ^ most → Fits (suc most) (negsuc k)
fits_under k most h =
    let less : 2 ^ (suc most - 1) ≡ 2 ^ most = ap (λ i. 2 ^ i) (omega arith) in
    record { low = omega (arith, ints, less); high = omega (arith, ints, less) }

-- an end of an interval of words, as a number
pub IsEnd : ℤ → Type 0
IsEnd (pos n) = n < 2 ^ 63
IsEnd (negsuc n) = n < 2 ^ 63

-- a number of an interval fits the interval's width
fits_between : (lo hi z : ℤ) → IsEnd lo → IsEnd hi → lo ≤ℤ z → z ≤ℤ hi → Fits (word_width (record { lo = lo; hi = hi })) z
unfolding IsEnd
fits_between lo (pos h) (pos k) p q a b = fits_above k _ (fits_digits h (digits_of h) (max (digits_beside_sign lo) (digits_of h)) (digits_below h q) (omega arith) k (omega (arith, ints)))
fits_between lo (negsuc h) (pos k) p q a b = absurd (omega (arith, ints))
fits_between (negsuc l) hi (negsuc k) p q a b = fits_under k _ (fits_digits l (digits_of l) (max (digits_of l) (digits_beside_sign hi)) (digits_below l p) (omega arith) k (omega (arith, ints)))
fits_between (pos l) hi (negsuc k) p q a b = absurd (omega (arith, ints))

pub is_end : (z : ℤ) → fits_number z ≡ true → IsEnd z
unfolding IsEnd
is_end (pos n) h = let below = ltb-true n (2 ^ 31) h in omega arith
is_end (negsuc n) h = let below = ltb-true n (2 ^ 31) h in omega arith

-- a number of a kind fits the kind's width
pub fits_width : (i : Interval) (z : ℤ) → fits i ≡ true → IsIn i z → Fits (word_width i) z
fits_width i z f h = let e = both_true _ _ f in fits_between i.lo i.hi z (is_end i.lo e.0) (is_end i.hi e.1) h.above h.below

-- a symbol's number fits the width of symbols
pub fits_symbol : (symbols : List Text) (i : ℕ) → length symbols < 2 ^ 63 → i < length symbols → Fits (symbol_width symbols) (pos i)
unfolding IsEnd
fits_symbol symbols i few h =
    let zero_end : IsEnd (pos 0) = omega arith in
    let last_end : IsEnd (pos (length symbols - 1)) = omega arith in
    fits_between (pos 0) (pos (length symbols - 1)) (pos i) zero_end last_end (omega (arith, ints)) (omega (arith, ints))

-- ---- words at their widths

-- a word at a width that its number fits has the same number
pub fit_same : (v : TotalAssignment) (n : ℕ) (w : List Literal) (z : ℤ) → 0 < length w → 0 < n → word_value v w ≡ z → Fits n z → word_value v (fit n w) ≡ z
fit_same v n w z h k e f =
    let small : Fits n (word_value v (fit n w)) = subst (λ (i : ℕ). Fits i (word_value v (fit n w))) (length-fit n w) (Fits-word v (fit n w) (omega (arith, length-fit n w))) in
    let cut : IsCutTo n (word_value v w) (word_value v (fit n w)) = record { low = small.low; high = small.high; wraps = word_value-fit v n w h } in
    exact n z (word_value v (fit n w)) k f (subst (λ (y : ℤ). IsCutTo n y (word_value v (fit n w))) e cut)

-- ---- the words of numbers

fits_64 : (z : ℤ) → IsEnd z → FitsSigned w64 z
unfolding IsEnd
fits_64 (pos n) h = record { sfits = omega arith }
fits_64 (negsuc n) h = record { sfits = omega arith }

-- a number of 32 bits
pub number_value : (v : TotalAssignment) (z : ℤ) → v 1 ≡ true → fits_number z ≡ true → word_value v (number_word z) ≡ z
number_value v z t f = number_word-value v z t (fits_64 z (is_end z f))

-- the number of a symbol
pub symbol_value : (v : TotalAssignment) (symbols : List Text) (i : ℕ) → v 1 ≡ true → length symbols < 2 ^ 63 → i < length symbols → word_value v (number_word (pos i)) ≡ pos i
unfolding IsEnd
symbol_value v symbols i t few h = number_word-value v (pos i) t (fits_64 (pos i) (let e : IsEnd (pos i) = omega arith in e))
