-- A width is the least number of bits.
use Rattle.std.proofs.Common.{◌≡◌, ℕ, zero, suc, ◌-◌, ◌/◌, ◌^◌, ◌<◌, ◌≤◌, max, Bool, true, false, ltb, nat_eq, ℤ, pos, negsuc, ◌≤ℤ◌, refl, sym, ap, subst, arith, eqb-true}
use Rattle.std.proofs.lemmas.Int.{ints}
use Rattle.std.proofs.lemmas.Bool.{ltb-true}
use Rattle.std.proofs.lemmas.Bool.Decides.{nat_tests}
use Rattle.std.proofs.Math.Nat.{pow-suc, pow-le-pow_right}
use Rattle.smv_type_laws.specs.Intervals.{fits_number}
use Rattle.smv_type_laws.specs.Costs.{digits_in, digits_of, width_of}
use Rattle.smv_type_laws.specs.Laws.{BitsHold, WidthsAreLeast}
use Rattle.smv_lexer.proofs.SignLemmas.{both_true}

-- d is the number of binary digits of n
pub record AreDigits (n d : ℕ) : Type 0 where
  pub below : n < 2 ^ d
  pub least : (w : ℕ) → n < 2 ^ w → d ≤ w

digits_step : (most n : ℕ) (t : Bool) → nat_eq n 0 ≡ t → digits_in (suc most) n ≡ elim t as (λ u. ℕ) [ true ↦ 0 | false ↦ suc (digits_in most (n / 2)) ]
unfolding digits_in
digits_step most n t e = ap (λ (u : Bool). elim u as (λ v. ℕ) [ true ↦ 0 | false ↦ suc (digits_in most (n / 2)) ]) e

no_digits : (n : ℕ) → n ≡ 0 → AreDigits n 0
no_digits n e = record { below = let one : 2 ^ 0 ≡ 1 = refl in omega arith; least = λ w h. omega arith }

halved : (n d : ℕ) → 0 < n → AreDigits (n / 2) d → AreDigits n (suc d)
halved n d p h = record { below = below; least = least }
  where
    below : n < 2 ^ suc d
    below = let b = h.below in omega (arith, pow-suc 2 d)

    least : (w : ℕ) → n < 2 ^ w → suc d ≤ w
    least zero q = let one : 2 ^ 0 ≡ 1 = refl in absurd (omega arith)
    least (suc w) q =
        let half : n / 2 < 2 ^ w = omega (arith, pow-suc 2 w) in
        let r = h.least w half in omega arith

pub digits_are : (most n : ℕ) → n < 2 ^ most → AreDigits n (digits_in most n)
unfolding digits_in
digits_are zero n h = let one : 2 ^ 0 ≡ 1 = refl in no_digits n (omega arith)
digits_are (suc most) n h = by (nat_eq n 0) refl (λ g. digits_are most (n / 2) g)
  where
    by : (t : Bool) → nat_eq n 0 ≡ t → (n / 2 < 2 ^ most → AreDigits (n / 2) (digits_in most (n / 2))) → AreDigits n (digits_in (suc most) n)
    by true e more = subst (AreDigits n) (sym (digits_step most n true e)) (no_digits n (eqb-true n 0 e))
    by false e more =
        let some : 0 < n = grind (arith, nat_tests) in
        subst (AreDigits n) (sym (digits_step most n false e)) (halved n (digits_in most (n / 2)) some (more (omega (arith, pow-suc 2 most))))

small : (n : ℕ) → ltb n (2 ^ 31) ≡ true → AreDigits n (digits_of n)
small n e =
    let h = ltb-true n (2 ^ 31) e in
    digits_are 64 n (omega arith)

ends_hold : (lo hi : ℤ) → lo ≤ℤ hi → fits_number lo ≡ true → fits_number hi ≡ true →
    BitsHold lo hi (width_of (record { lo = lo; hi = hi })) × ((w : ℕ) → BitsHold lo hi w → width_of (record { lo = lo; hi = hi }) ≤ w)
ends_hold (pos n) (pos k) p a b =
    let d = small k b in
    let more = pow-le-pow_right {n = 2} (omega arith) {i = digits_of k} {j = max 1 (digits_of k)} (omega arith) in
    let below = d.below in
    ((omega arith, omega (arith, ints)), λ w h. let l = d.least w (omega (arith, ints, h.1)) in omega (arith, h.0))
ends_hold (pos n) (negsuc k) p a b = absurd (omega (arith, ints))
ends_hold (negsuc n) (pos k) p a b =
    let c = small n a in
    let d = small k b in
    let top = max (digits_of n) (digits_of k) in
    let first = pow-le-pow_right {n = 2} (omega arith) {i = digits_of n} {j = max (digits_of n) (digits_of k)} (omega arith) in
    let second = pow-le-pow_right {n = 2} (omega arith) {i = digits_of k} {j = max (digits_of n) (digits_of k)} (omega arith) in
    let less : suc (max (digits_of n) (digits_of k)) - 1 ≡ max (digits_of n) (digits_of k) = omega arith in
    let same = ap (λ t. 2 ^ t) less in
    let below = c.below in
    let under = d.below in (
      (omega arith, omega (arith, ints), omega (arith, ints)),
      λ w h. let l = c.least (w - 1) (omega (arith, ints, h.1)) in let r = d.least (w - 1) (omega (arith, ints, h.2)) in omega (arith, h.0),
    )
ends_hold (negsuc n) (negsuc k) p a b =
    let c = small n a in
    let first = pow-le-pow_right {n = 2} (omega arith) {i = digits_of n} {j = max (digits_of n) 0} (omega arith) in
    let less : suc (max (digits_of n) 0) - 1 ≡ max (digits_of n) 0 = omega arith in
    let same = ap (λ t. 2 ^ t) less in
    let below = c.below in
    ((omega arith, omega (arith, ints), omega (arith, ints)), λ w h. let l = c.least (w - 1) (omega (arith, ints, h.1)) in omega (arith, h.0))

pub widths_least : WidthsAreLeast
widths_least i p f = let e = both_true _ _ f in ends_hold i.lo i.hi p e.0 e.1
