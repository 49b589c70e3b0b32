-- The sum of bounds is not below the sum of the exact products, and above it by at most the slack.
use Rattle.std.proofs.Common.{◌≡◌, ℕ, suc, ◌+◌, ◌-◌, ◌*◌, ◌^◌, ◌≤◌, List, [], ◌∷◌, length, subst, ap, ◌∙◌, arith}
use Rattle.std.proofs.Math.Nat.{mul-le-mul_left}
use Rattle.std.proofs.lemmas.Nat.{pow-add}
use Rattle.smv_language.specs.Trace.{Each}
use Rattle.fault_odds.specs.Units.{one_in_units}
use Rattle.fault_odds.specs.Bounds.{product_of, bound_of, bound_sum, slack_of, exact_at, exact_sum}
use Rattle.fault_odds.specs.Laws.{AreAtMostOne}
use Rattle.fault_odds.proofs.Products.{product_bounded, bound_above, bound_small}

-- a product in smaller parts: t is w times v
scaled_lower : (p x w v t : ℕ) → t ≡ w * v → p ≤ x * w → p * v ≤ x * t
scaled_lower p x w v t e h = let a : v * p ≤ v * (x * w) = mul-le-mul_left v h in rw e (let b : p * v ≤ x * (w * v) = omega arith in b)

scaled_upper : (p x k w v t : ℕ) → t ≡ w * v → x * w ≤ p + k * w → x * t ≤ p * v + k * t
scaled_upper p x k w v t e h = let a : v * (x * w) ≤ v * (p + k * w) = mul-le-mul_left v h in rw e (let b : x * (w * v) ≤ p * v + k * (w * v) = omega arith in b)

split : (scale k : ℕ) → suc k ≤ scale + 1 → one_in_units ^ scale ≡ one_in_units ^ k * one_in_units ^ (scale - k)
split scale k h = ap (λ n. one_in_units ^ n) (let e : scale ≡ k + (scale - k) = omega arith in e) ∙ pow-add one_in_units k (scale - k)

one_lower : (scale : ℕ) (ps : List ℕ) → AreAtMostOne ps → length ps ≤ scale + 1 → exact_at scale ps ≤ bound_of ps * one_in_units ^ scale
one_lower scale [] h small = omega arith
one_lower scale (p ∷ ps) h small =
    scaled_lower (product_of (p ∷ ps)) (bound_of (p ∷ ps)) (one_in_units ^ length ps) (one_in_units ^ (scale - length ps)) (one_in_units ^ scale)
    (split scale (length ps) small) (product_bounded (p ∷ ps) h).0

one_upper : (scale : ℕ) (ps : List ℕ) → AreAtMostOne ps → length ps ≤ scale + 1 → bound_of ps * one_in_units ^ scale ≤ exact_at scale ps + (length ps - 1) * one_in_units ^ scale
one_upper scale [] h small = omega arith
one_upper scale (p ∷ ps) h small =
    subst (λ k. bound_of (p ∷ ps) * one_in_units ^ scale ≤ exact_at scale (p ∷ ps) + k * one_in_units ^ scale) (let e : length ps ≡ suc (length ps) - 1 = omega arith in e)
    (scaled_upper (product_of (p ∷ ps)) (bound_of (p ∷ ps)) (length ps) (one_in_units ^ length ps) (one_in_units ^ (scale - length ps)) (one_in_units ^ scale)
    (split scale (length ps) small) (bound_above p ps h.1))

both_lower : (a b x y t : ℕ) → a ≤ x * t → b ≤ y * t → a + b ≤ (x + y) * t
both_lower a b x y t h k = omega arith

both_upper : (a b x y k l t : ℕ) → x * t ≤ a + k * t → y * t ≤ b + l * t → (x + y) * t ≤ (a + b) + (k + l) * t
both_upper a b x y k l t h g = omega arith

sum_lower : (sets : List (List ℕ)) → Each AreAtMostOne sets → (scale : ℕ) → Each (λ ps. length ps ≤ scale + 1) sets → exact_sum scale sets ≤ bound_sum sets * one_in_units ^ scale
sum_lower [] h scale small = omega arith
sum_lower (ps ∷ sets) h scale small =
    both_lower (exact_at scale ps) (exact_sum scale sets) (bound_of ps) (bound_sum sets) (one_in_units ^ scale) (one_lower scale ps h.0 small.0) (sum_lower sets h.1 scale small.1)

sum_upper : (sets : List (List ℕ)) → Each AreAtMostOne sets → (scale : ℕ) → Each (λ ps. length ps ≤ scale + 1) sets →
    bound_sum sets * one_in_units ^ scale ≤ exact_sum scale sets + slack_of sets * one_in_units ^ scale
sum_upper [] h scale small = omega arith
sum_upper (ps ∷ sets) h scale small =
    both_upper (exact_at scale ps) (exact_sum scale sets) (bound_of ps) (bound_sum sets) (length ps - 1) (slack_of sets) (one_in_units ^ scale)
    (one_upper scale ps h.0 small.0) (sum_upper sets h.1 scale small.1)

pub sums_bounded : (sets : List (List ℕ)) → Each AreAtMostOne sets → (scale : ℕ) → Each (λ ps. length ps ≤ scale + 1) sets →
    (exact_sum scale sets ≤ bound_sum sets * one_in_units ^ scale) × (bound_sum sets * one_in_units ^ scale ≤ exact_sum scale sets + slack_of sets * one_in_units ^ scale)
sums_bounded sets h scale small = (sum_lower sets h scale small, sum_upper sets h scale small)

one_more : (x y n u : ℕ) → x ≤ u → y ≤ n * u → x + y ≤ suc n * u
one_more x y n u h k = omega arith

pub sums_small : (sets : List (List ℕ)) → Each AreAtMostOne sets → bound_sum sets ≤ length sets * one_in_units
sums_small [] h = omega arith
sums_small (ps ∷ sets) h = one_more (bound_of ps) (bound_sum sets) (length sets) one_in_units (bound_small ps h.0) (sums_small sets h.1)
