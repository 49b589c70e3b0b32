-- Bounds in units on products of probabilities, and on their sum.
use Rattle.std.specs.Prelude.{◌≡◌, ℕ, ◌+◌, ◌-◌, ◌*◌, ◌^◌, ◌≤◌, List, [], ◌∷◌, length, map, slice_index_or}
use Rattle.std.specs.Int.{div_ceil}
use Rattle.fault_odds.specs.Units.{one_in_units}

-- the product of numbers
abbrev pub product_of : List ℕ → ℕ
product_of [] = 1
product_of (p ∷ ps) = p * product_of ps

-- A number of units bounds the exact product of probabilities, which is the product of their units over 10^18 for each
-- of them: it is not below, and above by at most one unit for each factor but the first.
abbrev pub Bounds : List ℕ → ℕ → Type 0
Bounds [] x = x ≡ one_in_units
Bounds (p ∷ ps) x =
    (product_of (p ∷ ps) ≤ x * one_in_units ^ length ps) × ((x - length ps) * one_in_units ^ length ps ≤ product_of (p ∷ ps))

-- multiplied by each in turn, and each time divided by 10^18 and rounded up
abbrev pub multiplied : ℕ → List ℕ → ℕ
multiplied x [] = x
multiplied x (p ∷ ps) = multiplied (div_ceil (x * p) one_in_units) ps

-- the bound of a set, from the units of its faults in order
abbrev pub bound_of : List ℕ → ℕ
bound_of [] = one_in_units
bound_of (p ∷ ps) = multiplied p ps

-- the units of a set's faults, which are numbers of the list from one on
abbrev pub units_in : List ℕ → List ℕ → List ℕ
units_in odds set = map (λ i. slice_index_or odds (i - 1) 0) set

-- the sum of the bounds of sets
abbrev pub bound_sum : List (List ℕ) → ℕ
bound_sum [] = 0
bound_sum (ps ∷ sets) = bound_of ps + bound_sum sets

-- by how many units the sum may be above: for each set its size less one
abbrev pub slack_of : List (List ℕ) → ℕ
slack_of [] = 0
slack_of (ps ∷ sets) = (length ps - 1) + slack_of sets

-- an exact product in parts of a unit of which a unit has 10^18 to the power of some scale, no less than the size less one
abbrev pub exact_at : ℕ → List ℕ → ℕ
exact_at scale [] = one_in_units * one_in_units ^ scale
exact_at scale (p ∷ ps) = product_of (p ∷ ps) * one_in_units ^ (scale - length ps)

-- the sum of the exact products of sets, in such parts
abbrev pub exact_sum : ℕ → List (List ℕ) → ℕ
exact_sum scale [] = 0
exact_sum scale (ps ∷ sets) = exact_at scale ps + exact_sum scale sets
