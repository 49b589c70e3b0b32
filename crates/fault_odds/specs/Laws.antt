-- The laws of bounds in units.
use Rattle.std.specs.Prelude.{ℕ, ◌+◌, ◌*◌, ◌^◌, ◌≤◌, List, length}
use Rattle.smv_language.specs.Trace.{Each}
use Rattle.fault_odds.specs.Units.{one_in_units}
use Rattle.fault_odds.specs.Bounds.{Bounds, bound_of, bound_sum, slack_of, exact_sum}

-- each number is a probability in units
abbrev pub AreAtMostOne : List ℕ → Type 0
AreAtMostOne ps = Each (λ p. p ≤ one_in_units) ps

-- the product rounded up in order bounds the exact product, and is a probability
abbrev pub ProductsAreBounded : Type 0
ProductsAreBounded = (ps : List ℕ) → AreAtMostOne ps → Bounds ps (bound_of ps) × (bound_of ps ≤ one_in_units)

-- the sum of the bounds is not below the sum of the exact products, and above it by at most the slack
abbrev pub SumsAreBounded : Type 0
SumsAreBounded =
    (sets : List (List ℕ)) → Each AreAtMostOne sets → (scale : ℕ) → Each (λ ps. length ps ≤ scale + 1) sets →
    (exact_sum scale sets ≤ bound_sum sets * one_in_units ^ scale)
    × (bound_sum sets * one_in_units ^ scale ≤ exact_sum scale sets + slack_of sets * one_in_units ^ scale)

-- the sum is at most one for each set, so that 2^64 sets stay within 128 bits
abbrev pub SumsAreSmall : Type 0
SumsAreSmall = (sets : List (List ℕ)) → Each AreAtMostOne sets → bound_sum sets ≤ length sets * one_in_units
