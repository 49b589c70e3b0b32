-- Bits of numbers, and the numbers of bits.
use Rattle.std.proofs.Common.{◌≡◌, ℕ, zero, suc, ◌+◌, ◌-◌, ◌*◌, ◌/◌, ◌%◌, ◌^◌, ◌<◌, eqb, Bool, true, false, not, ℤ, pos, negsuc, ◌+ℤ◌, ◌-ℤ◌, List, [], ◌∷◌, ◌++◌, length, map, refl, sym, ◌∙◌, ap, arith, eq-eqb}
use Rattle.std.proofs.lemmas.Int.{ints}
use Rattle.std.proofs.lemmas.List.{length-map, length-append}
use Rattle.std.proofs.lemmas.Bool.{ne_eqb}
use Rattle.std.proofs.lemmas.Bool.Decides.{nat_tests}
use Rattle.std.proofs.Math.Nat.{pow-succ'}
use Rattle.sat_circuits.specs.Bits.{bit_value, natural_value, last_bit, signed_value}
use Rattle.sat_circuits.proofs.Numbers.{natural_value-below, natural_value-not, signed_value-cut}
use Rattle.sat_circuits.proofs.Orders.{Fits, exact}
use Rattle.sat_encoding_laws.specs.Bits.{natural_bits, number_bits}

pub length-natural : (w n : ℕ) → length (natural_bits w n) ≡ w
length-natural zero n = refl
length-natural (suc w) n = ap suc (length-natural w (n / 2))

pub length-number : (w : ℕ) (z : ℤ) → length (number_bits w z) ≡ w
length-number w (pos n) = length-natural w n
length-number w (negsuc n) = length-map (natural_bits w n) not ∙ length-natural w n

bit_of_digit : (n : ℕ) → bit_value (eqb (n % 2) 1) + 2 * (n / 2) ≡ n
bit_of_digit n = grind (arith, nat_tests)

-- the digits of a number below 2 ^ w are its digits
pub natural-value : (w n : ℕ) → n < 2 ^ w → natural_value (natural_bits w n) ≡ n
natural-value zero n h = omega arith
natural-value (suc w) n h =
    let half : n / 2 < 2 ^ w = omega (arith, pow-succ' 2 w) in
    ap (λ k. bit_value (eqb (n % 2) 1) + 2 * k) (natural-value w (n / 2) half) ∙ bit_of_digit n

digit_of : (b : Bool) (k : ℕ) → eqb ((bit_value b + 2 * k) % 2) 1 ≡ b
digit_of true k = eq-eqb _ _ (omega arith)
digit_of false k = ne_eqb _ _ (λ e. omega arith)

half_of : (b : Bool) (k : ℕ) → (bit_value b + 2 * k) / 2 ≡ k
half_of true k = omega arith
half_of false k = omega arith

-- and bits are the digits of their number
pub bits-natural : (bs : List Bool) → natural_bits (length bs) (natural_value bs) ≡ bs
bits-natural [] = refl
bits-natural (b ∷ bs) = rw (digit_of b (natural_value bs), half_of b (natural_value bs), bits-natural bs) refl

-- the bits of a number that fits them, in two's complement, have its value
pub signed-value : (w : ℕ) (z : ℤ) → 0 < w → Fits w z → signed_value (number_bits w z) ≡ z
signed-value zero z some f = absurd (omega arith)
signed-value (suc w) (pos n) some f =
    let less : 2 ^ (suc w - 1) ≡ 2 ^ w = ap (λ i. 2 ^ i) (omega arith) in
    let below : n < 2 ^ suc w = omega (arith, ints, f.high, pow-succ' 2 w) in
    exact (suc w) (pos n) (signed_value (natural_bits (suc w) n)) some f
    (signed_value-cut (natural_bits (suc w) n) (suc w) (pos n) (length-natural (suc w) n) some (record { over = 0; under = 0; same = ap (λ k. pos k +ℤ pos (0 * 2 ^ suc w)) (sym (natural-value (suc w) n below)) }))
signed-value (suc w) (negsuc n) some f =
    let less : 2 ^ (suc w - 1) ≡ 2 ^ w = ap (λ i. 2 ^ i) (omega arith) in
    let below : n < 2 ^ suc w = omega (arith, ints, f.low, pow-succ' 2 w) in
    let turned = natural_value-not (natural_bits (suc w) n) in
    let long = ap (λ i. 2 ^ i) (length-natural (suc w) n) in
    let value = natural-value (suc w) n below in
    exact (suc w) (negsuc n) (signed_value (map not (natural_bits (suc w) n))) some f
    (signed_value-cut (map not (natural_bits (suc w) n)) (suc w) (negsuc n) (length-map (natural_bits (suc w) n) not ∙ length-natural (suc w) n) some
    (record { over = 1; under = 0; same = omega (arith, ints, turned, long, value) }))

not_not : (bs : List Bool) → map not (map not bs) ≡ bs
not_not [] = refl
not_not (true ∷ bs) = ap (λ x. true ∷ x) (not_not bs)
not_not (false ∷ bs) = ap (λ x. false ∷ x) (not_not bs)

-- bits are those of their number in two's complement
pub bits-number : (bs : List Bool) → number_bits (length bs) (signed_value bs) ≡ bs
bits-number bs = by (signed_value bs) refl
  where
    by : (z : ℤ) → signed_value bs ≡ z → number_bits (length bs) z ≡ bs
    by (pos n) e =
        let same : n ≡ natural_value bs = plain (last_bit bs) (natural_value bs) (2 ^ length bs) n (natural_value-below bs) e in
        ap (natural_bits (length bs)) same ∙ bits-natural bs
      where
        plain : (b : Bool) (x p n : ℕ) → x < p → pos x -ℤ pos (bit_value b * p) ≡ pos n → n ≡ x
        plain true x p n h e = omega (arith, ints, e)
        plain false x p n h e = omega (arith, ints, e)
    by (negsuc n) e =
        let turned = natural_value-not bs in
        let same : n ≡ natural_value (map not bs) = under (last_bit bs) (natural_value bs) (2 ^ length bs) n (natural_value (map not bs)) turned e in
        ap (map not) (ap (natural_bits (length bs)) same ∙ ap (λ i. natural_bits i (natural_value (map not bs))) (sym (length-map bs not)) ∙ bits-natural (map not bs)) ∙ not_not bs
      where
        under : (b : Bool) (x p n y : ℕ) → y + x + 1 ≡ p → pos x -ℤ pos (bit_value b * p) ≡ negsuc n → n ≡ y
        under true x p n y h e = omega (arith, ints, e)
        under false x p n y h e = omega (arith, ints, e)

-- a bit more that is FALSE
natural-false : (bs : List Bool) → natural_value (bs ++ false ∷ []) ≡ natural_value bs
natural-false [] = refl
natural-false (b ∷ bs) = ap (λ k. bit_value b + 2 * k) (natural-false bs)

-- bits with FALSE as the sign have their digits' value
pub unsigned-value : (bs : List Bool) → signed_value (bs ++ false ∷ []) ≡ pos (natural_value bs)
unsigned-value bs =
    let long : length (bs ++ false ∷ []) ≡ suc (length bs) = length-append bs (false ∷ []) ∙ omega arith in
    let below = natural_value-below bs in
    let less : 2 ^ (suc (length bs) - 1) ≡ 2 ^ length bs = ap (λ i. 2 ^ i) (omega arith) in
    exact (suc (length bs)) (pos (natural_value bs)) (signed_value (bs ++ false ∷ [])) (omega arith)
    (record { low = omega (arith, ints, less); high = omega (arith, ints, less) })
    (signed_value-cut (bs ++ false ∷ []) (suc (length bs)) (pos (natural_value bs)) long (omega arith)
    (record { over = 0; under = 0; same = ap (λ k. pos k +ℤ pos (0 * 2 ^ suc (length bs))) (sym (natural-false bs)) }))
