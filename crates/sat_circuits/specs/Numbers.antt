-- The word of a number: as few literals as hold it, each of them a constant.
use Rattle.std.specs.Prelude.{ℕ, suc, zero, ◌/◌, ◌%◌, ◌==◌, Bool, true, false, if◌then◌else◌, List, [], ◌∷◌, ℤ, pos, negsuc}
use Rattle.sat_clauses.specs.Literal.{Literal}
use Rattle.sat_circuits.specs.Gates.{constant_lit, differ}

-- the binary digits of n, each turned over where negative is set, and then the sign; n is below 2 ^ most
unfoldable pub digits_from : ℕ → ℕ → Bool → List Literal
digits_from zero n negative = constant_lit negative ∷ []
digits_from (suc most) n negative =
    if n == 0 then constant_lit negative ∷ [] else (constant_lit (differ (n % 2 == 1) negative) ∷ digits_from most (n / 2) negative)

-- n of 0 or more by its digits, and -1 - n by those of n turned over
abbrev pub number_word : ℤ → List Literal
number_word (pos n) = digits_from 64 n false
number_word (negsuc n) = digits_from 64 n true
