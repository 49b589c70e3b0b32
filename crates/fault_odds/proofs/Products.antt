-- The product rounded up in order is not below the exact one, and above it by at most one unit a factor.
use Rattle.std.proofs.Common.{◌≡◌, ℕ, suc, ◌+◌, ◌-◌, ◌*◌, ◌^◌, ◌<◌, ◌≤◌, List, [], ◌∷◌, length, refl, subst, ap, inl, inr, arith}
use Rattle.std.specs.Int.{div_ceil}
use Rattle.std.proofs.lemmas.Bool.{cases_lt}
use Rattle.std.proofs.lemmas.Grind.{div_ceil_times}
use Rattle.std.proofs.Math.Nat.{pow-suc, mul-le-mul_left}
use Rattle.fault_odds.specs.Units.{one_in_units}
use Rattle.fault_odds.specs.Bounds.{product_of, Bounds, multiplied, bound_of}
use Rattle.fault_odds.specs.Laws.{AreAtMostOne}

-- one factor more, over plain numbers: w' is w times u
lower_step : (u x p rest y big w w' : ℕ) → w' ≡ w * u → x * p ≤ y * u → y * rest ≤ big * w → x * (p * rest) ≤ big * w'
lower_step u x p rest y big w w' e h k =
    let a : rest * (x * p) ≤ rest * (y * u) = mul-le-mul_left rest h in
    let b : u * (y * rest) ≤ u * (big * w) = mul-le-mul_left u k in
    let c : x * (p * rest) ≤ big * (w * u) = omega arith in
    subst (λ n. x * (p * rest) ≤ big * n) (sym_of w' (w * u) e) c
  where
    sym_of : (a b : ℕ) → a ≡ b → b ≡ a
    sym_of a b e = cc

upper_step : (u x p rest y big w w' k : ℕ) → w' ≡ w * u → y * u ≤ x * p + u → big * w ≤ y * rest + k * w → rest ≤ w → big * w' ≤ x * (p * rest) + suc k * w'
upper_step u x p rest y big w w' k e h l small =
    let a : rest * (y * u) ≤ rest * (x * p + u) = mul-le-mul_left rest h in
    let b : u * (big * w) ≤ u * (y * rest + k * w) = mul-le-mul_left u l in
    let d : u * rest ≤ u * w = mul-le-mul_left u small in
    let c : big * (w * u) ≤ x * (p * rest) + suc k * (w * u) = omega arith in
    subst (λ n. big * n ≤ x * (p * rest) + suc k * n) (sym_of w' (w * u) e) c
  where
    sym_of : (a b : ℕ) → a ≡ b → b ≡ a
    sym_of a b e = cc

-- the product of probabilities is at most one
times_small : (u p rest w w' : ℕ) → w' ≡ w * u → p ≤ u → rest ≤ w → p * rest ≤ w'
times_small u p rest w w' e h k =
    let a : rest * p ≤ rest * u = mul-le-mul_left rest h in
    let b : u * rest ≤ u * w = mul-le-mul_left u k in
    omega arith

pub product_small : (ps : List ℕ) → AreAtMostOne ps → product_of ps ≤ one_in_units ^ length ps
product_small [] h = omega arith
product_small (p ∷ ps) h =
    times_small one_in_units p (product_of ps) (one_in_units ^ length ps) (one_in_units ^ suc (length ps)) (pow-suc one_in_units (length ps)) h.0 (product_small ps h.1)

rounded : (x p : ℕ) → (x * p ≤ div_ceil (x * p) one_in_units * one_in_units) × (div_ceil (x * p) one_in_units * one_in_units < x * p + one_in_units)
rounded x p = div_ceil_times (x * p) one_in_units (omega arith)

lower : (x : ℕ) (ps : List ℕ) → x * product_of ps ≤ multiplied x ps * one_in_units ^ length ps
lower x [] = omega arith
lower x (p ∷ ps) =
    lower_step one_in_units x p (product_of ps) (div_ceil (x * p) one_in_units) (multiplied (div_ceil (x * p) one_in_units) ps) (one_in_units ^ length ps) (one_in_units ^ suc (length ps))
    (pow-suc one_in_units (length ps)) (rounded x p).0 (lower (div_ceil (x * p) one_in_units) ps)

below_at : (a b c : ℕ) → a < b + c → a ≤ b + c
below_at a b c h = omega arith

upper : (x : ℕ) (ps : List ℕ) → AreAtMostOne ps → multiplied x ps * one_in_units ^ length ps ≤ x * product_of ps + length ps * one_in_units ^ length ps
upper x [] h = omega arith
upper x (p ∷ ps) h =
    upper_step one_in_units x p (product_of ps) (div_ceil (x * p) one_in_units) (multiplied (div_ceil (x * p) one_in_units) ps) (one_in_units ^ length ps) (one_in_units ^ suc (length ps)) (length ps)
    (pow-suc one_in_units (length ps)) (below_at (div_ceil (x * p) one_in_units * one_in_units) (x * p) one_in_units (rounded x p).1)
    (upper (div_ceil (x * p) one_in_units) ps h.1) (product_small ps h.1)

-- a product rounded up does not grow
falls : (u x p y : ℕ) → 0 < u → p ≤ u → y * u < x * p + u → y ≤ x
falls u x p y pos h k =
    let a : x * p ≤ x * u = mul-le-mul_left x h in
    let b : u * y < u * suc x = omega arith in
    strict u y (suc x) b
  where
    strict : (u y z : ℕ) → u * y < u * suc x → y ≤ x
    strict u y z h = grind (arith, mul-le-mul_left {m = suc x} {n = y} u)

pub no_larger : (x : ℕ) (ps : List ℕ) → AreAtMostOne ps → multiplied x ps ≤ x
no_larger x [] h = omega arith
no_larger x (p ∷ ps) h =
    let y : ℕ = div_ceil (x * p) one_in_units in
    let a : multiplied y ps ≤ y = no_larger y ps h.1 in
    let b : y ≤ x = falls one_in_units x p y (omega arith) h.0 (rounded x p).1 in
    trans_of (multiplied y ps) y x a b
  where
    trans_of : (a b c : ℕ) → a ≤ b → b ≤ c → a ≤ c
    trans_of a b c h k = omega arith

pub bound_small : (ps : List ℕ) → AreAtMostOne ps → bound_of ps ≤ one_in_units
bound_small [] h = omega arith
bound_small (p ∷ ps) h = trans_of (multiplied p ps) p one_in_units (no_larger p ps h.1) h.0
  where
    trans_of : (a b c : ℕ) → a ≤ b → b ≤ c → a ≤ c
    trans_of a b c h k = omega arith

-- less a number of units on the left
less : (big k w p : ℕ) → big * w ≤ p + k * w → (big - k) * w ≤ p
less big k w p h = elim (cases_lt big k) [ inl small ↦ none (big - k) (omega arith) | inr large ↦ rest big k (big - k) (omega arith) h ]
  where
    none : (d : ℕ) → d ≡ 0 → d * w ≤ p
    none d e = let n : d * w ≡ 0 * w = ap (λ x. x * w) e in omega arith

    rest : (big k d : ℕ) → big ≡ k + d → big * w ≤ p + k * w → d * w ≤ p
    rest big k d e h = let n : big * w ≡ (k + d) * w = ap (λ x. x * w) e in omega arith

pub product_bounded : (ps : List ℕ) → AreAtMostOne ps → Bounds ps (bound_of ps)
product_bounded [] h = refl
product_bounded (p ∷ ps) h = (lower p ps, less (multiplied p ps) (length ps) (one_in_units ^ length ps) (product_of (p ∷ ps)) (upper p ps h.1))

-- both ways, with no subtraction
pub bound_above : (p : ℕ) (ps : List ℕ) → AreAtMostOne ps → bound_of (p ∷ ps) * one_in_units ^ length ps ≤ product_of (p ∷ ps) + length ps * one_in_units ^ length ps
bound_above p ps h = upper p ps h
