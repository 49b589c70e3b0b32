-- What the word of a number means.
use Rattle.std.proofs.Common.{◌≡◌, ℕ, zero, suc, ◌*◌, ◌/◌, ◌%◌, ◌^◌, ◌<◌, Bool, true, false, not, cond, eqb, List, [], ◌∷◌, ◌++◌, length, map, append_assoc, w64, refl, sym, ◌∙◌, ap, arith, inl, inr, ℤ, pos, negsuc, ◌+ℤ◌}
use Rattle.std.specs.Prelude.{FitsSigned}
use Rattle.std.proofs.Math.Bool.{beq}
use Rattle.std.proofs.lemmas.Int.{ints}
use Rattle.std.proofs.lemmas.List.{length-map}
use Rattle.std.proofs.lemmas.Bool.{cases_eq, ne_eqb}
use Rattle.std.proofs.Math.Nat.{pow-succ'}
use Rattle.sat_clauses.specs.Literal.{Literal}
use Rattle.sat_clauses.specs.Models.{literal_value, TotalAssignment}
use Rattle.sat_circuits.specs.Gates.{differ, constant_lit}
use Rattle.sat_circuits.specs.Circuit.{Circuit}
use Rattle.sat_circuits.specs.Meaning.{AllBelow}
use Rattle.sat_circuits.specs.Bits.{bit_value, last_from, signed_value}
use Rattle.sat_circuits.specs.Words.{word_value, IsWordOf}
use Rattle.sat_circuits.specs.Numbers.{digits_from, number_word}

pub constant-value : (v : TotalAssignment) (b : Bool) → v 1 ≡ true → literal_value v (constant_lit b) ≡ b
constant-value v true t = t
constant-value v false t = ap not t

-- one bit below a number that has a sign already
signed_value-cons : (b x : Bool) (bs : List Bool) → signed_value (b ∷ (x ∷ bs)) ≡ pos (bit_value b) +ℤ (signed_value (x ∷ bs) +ℤ signed_value (x ∷ bs))
signed_value-cons b x bs =
    omega (arith, ints, ap (λ p. bit_value (last_from x bs) * p) (pow-succ' 2 (length (x ∷ bs))))

pub number_of : ℕ → Bool → ℤ
number_of n b = cond b (negsuc n) (pos n)

digit : (n : ℕ) (s : Bool) → pos (bit_value (differ (eqb (n % 2) 1) s)) +ℤ (number_of (n / 2) s +ℤ number_of (n / 2) s) ≡ number_of n s
unfolding number_of
digit n true = grind (arith, ints)
digit n false = grind (arith, ints)

single : (s : Bool) → signed_value (s ∷ []) ≡ number_of 0 s
unfolding number_of
single true = refl
single false = refl

digits_from-zero : (f : ℕ) (s : Bool) → digits_from f 0 s ≡ constant_lit s ∷ []
unfolding digits_from
digits_from-zero zero s = refl
digits_from-zero (suc f) s = refl

pub digits_from-next : (f n : ℕ) (s : Bool) → 0 < n → digits_from (suc f) n s ≡ constant_lit (differ (eqb (n % 2) 1) s) ∷ digits_from f (n / 2) s
unfolding digits_from
digits_from-next f n s h = let not_zero : eqb n 0 ≡ false = ne_eqb n 0 (λ e. omega arith) in rw not_zero refl

digits_from-some : (f n : ℕ) (s : Bool) → 0 < length (digits_from f n s)
unfolding digits_from
digits_from-some zero n s = omega arith
digits_from-some (suc f) n s = elim (eqb n 0) as (λ b. 0 < length (cond b (constant_lit s ∷ []) (constant_lit (differ (eqb (n % 2) 1) s) ∷ digits_from f (n / 2) s))) [ true ↦ omega arith | false ↦ omega arith ]

signed_value-before : (b : Bool) (bs : List Bool) → 0 < length bs → signed_value (b ∷ bs) ≡ pos (bit_value b) +ℤ (signed_value bs +ℤ signed_value bs)
signed_value-before b [] h = absurd (omega arith)
signed_value-before b (x ∷ bs) h = signed_value-cons b x bs

pub digits_from-value : (v : TotalAssignment) (f n : ℕ) (s : Bool) → v 1 ≡ true → n < 2 ^ f → word_value v (digits_from f n s) ≡ number_of n s
digits_from-value v zero n s t h =
    let none : n ≡ 0 = omega arith in
    rw (none, digits_from-zero) (ap (λ b. signed_value (b ∷ [])) (constant-value v s t) ∙ single s)
digits_from-value v (suc f) n s t h =
    elim (cases_eq n 0) [
      | inl none ↦ rw (none, digits_from-zero) (ap (λ b. signed_value (b ∷ [])) (constant-value v s t) ∙ single s)
      | inr some ↦
          let more : 0 < n = omega arith in
          let rest : word_value v (digits_from f (n / 2) s) ≡ number_of (n / 2) s = digits_from-value v f (n / 2) s t (omega (arith, pow-succ' 2 f)) in
          ap (word_value v) (digits_from-next f n s more)
          ∙ signed_value-before (literal_value v (constant_lit (differ (eqb (n % 2) 1) s))) (map (literal_value v) (digits_from f (n / 2) s)) (rw length-map (digits_from-some f (n / 2) s))
          ∙ ap (λ b. pos (bit_value b) +ℤ (word_value v (digits_from f (n / 2) s) +ℤ word_value v (digits_from f (n / 2) s))) (constant-value v (differ (eqb (n % 2) 1) s) t)
          ∙ ap (λ z. pos (bit_value (differ (eqb (n % 2) 1) s)) +ℤ (z +ℤ z)) rest
          ∙ digit n s
    ]

pub digits_from-fuel : (f g n : ℕ) (s : Bool) → n < 2 ^ f → n < 2 ^ g → digits_from f n s ≡ digits_from g n s
digits_from-fuel zero g n s h k =
    let none : n ≡ 0 = omega arith in
    rw none (digits_from-zero zero s ∙ sym (digits_from-zero g s))
digits_from-fuel (suc f) zero n s h k =
    let none : n ≡ 0 = omega arith in
    rw none (digits_from-zero (suc f) s ∙ sym (digits_from-zero zero s))
digits_from-fuel (suc f) (suc g) n s h k =
    elim (cases_eq n 0) [
      | inl none ↦ rw none (digits_from-zero (suc f) s ∙ sym (digits_from-zero (suc g) s))
      | inr some ↦
          let more : 0 < n = omega arith in
          digits_from-next f n s more
          ∙ ap (λ w. constant_lit (differ (eqb (n % 2) 1) s) ∷ w) (digits_from-fuel f g (n / 2) s (omega (arith, pow-succ' 2 f)) (omega (arith, pow-succ' 2 g)))
          ∙ sym (digits_from-next g n s more)
    ]

-- the loop that writes digits: w is written, and n is left
pub digits_loop-step : (whole w : List Literal) (n : ℕ) (s : Bool) → 0 < n → n < 2 ^ 63 → whole ≡ w ++ digits_from 64 n s
    → whole ≡ (w ++ constant_lit (differ (eqb (n % 2) 1) s) ∷ []) ++ digits_from 64 (n / 2) s
digits_loop-step whole w n s h k e =
    e
    ∙ ap (λ d. w ++ d) (digits_from-next 63 n s h ∙ ap (λ d. constant_lit (differ (eqb (n % 2) 1) s) ∷ d) (digits_from-fuel 63 64 (n / 2) s (omega arith) (omega arith)))
    ∙ sym (append_assoc w (constant_lit (differ (eqb (n % 2) 1) s) ∷ []) (digits_from 64 (n / 2) s))

pub digits_loop-end : (whole w : List Literal) (s : Bool) → whole ≡ w ++ digits_from 64 0 s → whole ≡ w ++ constant_lit s ∷ []
digits_loop-end whole w s e = e ∙ ap (λ d. w ++ d) (digits_from-zero 64 s)

pub number_word-value : (v : TotalAssignment) (z : ℤ) → v 1 ≡ true → FitsSigned w64 z → word_value v (number_word z) ≡ z
unfolding number_of
number_word-value v (pos n) t f = digits_from-value v 64 n false t (omega (arith, f.sfits))
number_word-value v (negsuc n) t f = digits_from-value v 64 n true t (omega (arith, f.sfits))

pub not_same : (a b : Bool) → not (beq a b) ≡ differ a b
not_same true true = refl
not_same true false = refl
not_same false true = refl
not_same false false = refl

digits-below : (f n : ℕ) (s : Bool) (m : ℕ) → 1 < m → AllBelow m (digits_from f n s)
unfolding digits_from
digits-below zero n s m h = (h, tt)
digits-below (suc f) n s m h =
    elim (eqb n 0) as (λ b. AllBelow m (cond b (constant_lit s ∷ []) (constant_lit (differ (eqb (n % 2) 1) s) ∷ digits_from f (n / 2) s))) [
      | true ↦ (h, tt)
      | false ↦ (h, digits-below f (n / 2) s m h)
    ]

pub number_word-word : (z : ℤ) (s : Circuit) → 1 < s.free → IsWordOf s (number_word z)
number_word-word (pos n) s h = record { signed = digits_from-some 64 n false; below = digits-below 64 n false s.free h }
number_word-word (negsuc n) s h = record { signed = digits_from-some 64 n true; below = digits-below 64 n true s.free h }
