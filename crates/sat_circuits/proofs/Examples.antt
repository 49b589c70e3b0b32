-- Worked examples of the definitions.
use Rattle.std.proofs.Common.{◌≡◌, [], ◌∷◌, true, false, pos, negsuc, refl}
use Rattle.sat_clauses.specs.Literal.{plain, opposite}
use Rattle.sat_circuits.specs.Gates.{constant_lit}
use Rattle.sat_circuits.specs.Bits.{signed_value}
use Rattle.sat_circuits.specs.Words.{fit, sign_of}
use Rattle.sat_circuits.specs.Counts.{true_count}

-- 011, the least significant bit last, is 3
three : signed_value (true ∷ true ∷ false ∷ []) ≡ pos 3
three = refl

-- 10 is -2
minus_two : signed_value (false ∷ true ∷ []) ≡ negsuc 1
minus_two = refl

-- at four bits the sign is repeated, and at one bit the lowest is left
wider : fit 4 (plain 2 ∷ plain 3 ∷ []) ≡ plain 2 ∷ plain 3 ∷ plain 3 ∷ plain 3 ∷ []
unfolding fit
wider = refl

narrower : fit 1 (plain 2 ∷ plain 3 ∷ []) ≡ plain 2 ∷ []
unfolding fit
narrower = refl

sign : sign_of (plain 2 ∷ opposite (plain 3) ∷ []) ≡ opposite (plain 3)
sign = refl

-- where the variables 2 and 3 are true, one of 2, -3 and -1 is
one_of_three : true_count (λ x. true) (plain 2 ∷ opposite (plain 3) ∷ constant_lit false ∷ []) ≡ 1
one_of_three = refl
