-- Steps of the loops over sets.
use Rattle.std.proofs.Common.{◌≡◌, ℕ, zero, suc, ◌+◌, ◌-◌, ◌<◌, ◌≤◌, nat_eq, nat_lt, true, false, List, [], ◌∷◌, length, drop, get_or, refl, subst, length-drop, sym, ap, ◌∙◌, arith, eq-eqb}
use Rattle.std.specs.Prelude.{◌&&◌}
use Rattle.std.proofs.lemmas.Bool.{and_parts, lt-ltb}
use Rattle.std.proofs.Math.Seq.{drop-cons}
use Rattle.std.proofs.Math.ListN.{drop_of_length-le}
use Rattle.cut_right_laws.specs.Sets.{IsRising, is_before_in_order}
use Rattle.cut_sets.specs.Tests.{is_rising}
use Rattle.std.proofs.Math.Numerals.{suc-eq-add-one}

nothing_before : (s : List ℕ) → is_before_in_order s [] ≡ false
nothing_before [] = refl
nothing_before (i ∷ is) = refl

-- the other has ended
pub before_ended : (s t : List ℕ) (k : ℕ) → length t ≤ k → is_before_in_order (drop k s) (drop k t) ≡ false
before_ended s t k h = ap (is_before_in_order (drop k s)) (drop_of_length-le t h) ∙ nothing_before (drop k s)

-- the set has ended first
pub before_shorter : (s t : List ℕ) (k : ℕ) → k < length t → length s ≤ k → is_before_in_order (drop k s) (drop k t) ≡ true
before_shorter s t k l h = rw (drop_of_length-le s h, drop-cons t k 0 l) refl

-- they differ here
pub before_differs : (s t : List ℕ) (k : ℕ) → k < length s → k < length t → nat_eq (get_or s k 0) (get_or t k 0) ≡ false → is_before_in_order (drop k s) (drop k t) ≡ nat_lt (get_or s k 0) (get_or t k 0)
before_differs s t k l l' e = rw (drop-cons s k 0 l, drop-cons t k 0 l', e) refl

-- they are the same here
pub before_same : (s t : List ℕ) (k : ℕ) → k < length s → k < length t → get_or s k 0 ≡ get_or t k 0 → is_before_in_order (drop k s) (drop k t) ≡ is_before_in_order (drop (k + 1) s) (drop (k + 1) t)
before_same s t k l l' e =
    rw (drop-cons s k 0 l, drop-cons t k 0 l', eq-eqb (get_or s k 0) (get_or t k 0) e) (ap (λ n. is_before_in_order (drop n s) (drop n t)) (suc-eq-add-one k))

-- a number and the next one
rising_two : (s : List ℕ) (k : ℕ) → suc k < length s → is_rising (drop k s) ≡ (nat_lt (get_or s k 0) (get_or s (suc k) 0) && is_rising (drop (suc k) s))
rising_two s k l =
    let later : drop (suc k) s ≡ get_or s (suc k) 0 ∷ drop (suc (suc k)) s = drop-cons s (suc k) 0 l in
    ap is_rising (drop-cons s k 0 (omega (arith, l)) ∙ ap (λ xs. get_or s k 0 ∷ xs) later) ∙ ap (λ xs. nat_lt (get_or s k 0) (get_or s (suc k) 0) && is_rising xs) (sym later)

pub rising_more : (s : List ℕ) (k : ℕ) → 1 ≤ k → k < length s → is_rising (drop (k - 1) s) ≡ (nat_lt (get_or s (k - 1) 0) (get_or s k 0) && is_rising (drop k s))
rising_more s zero h l = absurd (omega (arith, h))
rising_more s (suc k) h l =
    subst (λ n. is_rising (drop n s) ≡ (nat_lt (get_or s n 0) (get_or s (suc k) 0) && is_rising (drop (suc k) s))) (before k) (rising_two s k l)
  where
    before : (k : ℕ) → k ≡ suc k - 1
    before k = omega arith

-- fewer than two numbers are left
rising_short : (s : List ℕ) → length s ≤ 1 → is_rising s ≡ true
rising_short [] h = refl
rising_short (i ∷ []) h = refl
rising_short (i ∷ j ∷ s) h = absurd (omega (arith, h))

pub rising_one : (s : List ℕ) (k : ℕ) → length s ≤ k + 1 → is_rising (drop k s) ≡ true
rising_one s k h = rising_short (drop k s) (omega (arith, h, length-drop k s))

pub rising_none : (s : List ℕ) (k : ℕ) → 1 ≤ k → length s ≤ k → is_rising (drop (k - 1) s) ≡ true
rising_none s k l h = rising_one s (k - 1) (omega (arith, l, h))

-- what is computed is whether it rises
less_then : (i j : ℕ) → nat_lt i j ≡ true → i < j
less_then i j e = grind arith

pub rises_then : (s : List ℕ) → is_rising s ≡ true → IsRising s
rises_then [] e = tt
rises_then (i ∷ []) e = tt
rises_then (i ∷ j ∷ s) e = let both = and_parts (nat_lt i j) (is_rising (j ∷ s)) e in (less_then i j both.0, rises_then (j ∷ s) both.1)

pub rises_where : (s : List ℕ) → IsRising s → is_rising s ≡ true
rises_where [] h = refl
rises_where (i ∷ []) h = refl
rises_where (i ∷ j ∷ s) h = ap (λ b. b && is_rising (j ∷ s)) (lt-ltb i j h.0) ∙ rises_where (j ∷ s) h.1

pub ruleset before_steps = (before_ended, before_shorter, before_differs, before_same)
