-- Digits after the point: how many there are, and what a further place makes of them.
use Rattle.std.proofs.Common.{◌≡◌, ℕ, suc, ◌+◌, ◌-◌, ◌*◌, ◌^◌, ◌<◌, ◌≤◌, Bool, true, false, length, ◌∙◌, ap, arith}
use Rattle.std.specs.Prelude.{nat_le, ◌&&◌}
use Rattle.std.specs.List.{list_all}
use Rattle.std.proofs.lemmas.Bool.Decides.{nat_tests}
use Rattle.std.proofs.Math.Nat.{pow-suc, pow-le-pow_right}
use Rattle.smv_language.specs.ProgramTree.{Text}
use Rattle.fault_odds.specs.Units.{is_digit, is_fraction}

last_of_three : (a b c : Bool) → (a && (b && c)) ≡ true → c ≡ true
last_of_three true true c h = h
last_of_three true false c h = cc
last_of_three false b c h = cc

pub fraction_few : (ds : Text) → is_fraction ds ≡ true → length ds ≤ 18
fraction_few ds h = few (length ds) (last_of_three (list_all is_digit ds) (nat_le 1 (length ds)) (nat_le (length ds) 18) h)
  where
    few : (n : ℕ) → nat_le n 18 ≡ true → n ≤ 18
    few n h = grind (arith, nat_tests)

-- a number of fewer than eighteen digits is below 10^17
pub power_small : (number i n : ℕ) → number < 10 ^ i → i < n → n ≤ 18 → number < 10 ^ 17
power_small number i n h l few = below number (10 ^ i) (10 ^ 17) h (pow-le-pow_right {n = 10} (omega arith) {i = i} {j = 17} (omega (arith, l, few)))
  where
    below : (a b c : ℕ) → a < b → b ≤ c → a < c
    below a b c h k = omega arith

-- one place more
pub place_on : (units place len number : ℕ) → len ≤ place → place < 18 → units < 10 ^ place → units ≡ number * 10 ^ (place - len) →
    (len ≤ place + 1) × (place + 1 ≤ 18) × (units * 10 < 10 ^ (place + 1)) × (units * 10 ≡ number * 10 ^ (place + 1 - len))
place_on units place len number l p h e = (omega (arith, l), omega (arith, p), less units (10 ^ place) (10 ^ (place + 1)) h (ten place), equal units number (10 ^ (place - len)) (10 ^ (place + 1 - len)) e shifted)
  where
    ten : (n : ℕ) → 10 ^ (n + 1) ≡ 10 ^ n * 10
    ten n = ap (λ k. 10 ^ k) (next n) ∙ pow-suc 10 n
      where
        next : (n : ℕ) → n + 1 ≡ suc n
        next n = omega arith

    shifted : 10 ^ (place + 1 - len) ≡ 10 ^ (place - len) * 10
    shifted = ap (λ k. 10 ^ k) (moved place len l) ∙ ten (place - len)
      where
        moved : (place len : ℕ) → len ≤ place → place + 1 - len ≡ place - len + 1
        moved place len l = omega (arith, l)

    less : (u p q : ℕ) → u < p → q ≡ p * 10 → u * 10 < q
    less u p q h e = omega (arith, h, e)

    equal : (u n p q : ℕ) → u ≡ n * p → q ≡ p * 10 → u * 10 ≡ n * q
    equal u n p q e f = let a : u * 10 ≡ (n * p) * 10 = ap (λ x. x * 10) e in let b : n * q ≡ n * (p * 10) = ap (λ x. n * x) f in omega (arith, a, b)
