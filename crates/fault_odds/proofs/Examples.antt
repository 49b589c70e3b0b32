-- Marks, bounds and their text, as the checker computes them.
use Rattle.std.proofs.Common.{◌≡◌, ◌^◌, [], ◌∷◌, Some, None, refl, codes}
use Rattle.fault_odds.specs.Units.{units_of}
use Rattle.fault_odds.specs.Bounds.{bound_of}
use Rattle.fault_odds.specs.OddsText.{last_digits}

-- {0.001}
a_thousandth : units_of (codes "0" ∷ codes "." ∷ codes "001" ∷ []) ≡ Some (10 ^ 15)
a_thousandth = refl

-- {1.0} is one, and {1.5}, {2}, {00} and {0.} are no probabilities
one : units_of (codes "1" ∷ codes "." ∷ codes "0" ∷ []) ≡ Some (10 ^ 18)
one = refl

more_than_one : units_of (codes "1" ∷ codes "." ∷ codes "5" ∷ []) ≡ None
more_than_one = refl

two : units_of (codes "2" ∷ []) ≡ None
two = refl

two_zeros : units_of (codes "00" ∷ []) ≡ None
two_zeros = refl

no_digits : units_of (codes "0" ∷ codes "." ∷ []) ≡ None
no_digits = refl

-- one unit and a half: one unit, rounded up
rounded : bound_of (1 ∷ 500000000000000000 ∷ []) ≡ 1
rounded = refl

-- a tenth and a quarter, and the eighteen digits of their bound
tenth_and_quarter : bound_of (100000000000000000 ∷ 250000000000000000 ∷ []) ≡ 25000000000000000
tenth_and_quarter = refl

its_digits : last_digits 18 25000000000000000 ≡ codes "025000000000000000"
its_digits = refl

no_fraction : last_digits 18 1000000000000000000 ≡ codes "000000000000000000"
no_fraction = refl
