-- Probabilities in units, one unit being one part of 10^18, and the marks of modes that are probabilities.
use Rattle.std.specs.Prelude.{ℕ, ◌+◌, ◌-◌, ◌*◌, ◌^◌, nat_le, Bool, ◌&&◌, List, [], ◌∷◌, Option, Some, None, length, codes, if◌then◌else◌}
use Rattle.std.specs.List.{list_all}
use Rattle.smv_language.specs.Language.{Text, same_text}
use Rattle.smv_lexer.specs.Tokens.{number_of}

-- how many units make one
abbrev pub one_in_units : ℕ
one_in_units = 10 ^ 18

-- the byte is a decimal digit
abbrev pub is_digit : ℕ → Bool
is_digit c = nat_le 48 c && nat_le c 57

-- one to eighteen digits
abbrev pub is_fraction : Text → Bool
is_fraction digits = list_all is_digit digits && (nat_le 1 (length digits) && nat_le (length digits) 18)

-- the units of `0` and of `1`
abbrev pub whole_units : Text → Option ℕ
whole_units x = if same_text x (codes "0") then Some 0 else (if same_text x (codes "1") then Some one_in_units else None)

-- a number that is at most one
abbrev pub at_most_one : ℕ → Option ℕ
at_most_one n = if nat_le n one_in_units then Some n else None

-- the units of a whole part with digits after the point
abbrev pub with_fraction : Option ℕ → Text → Option ℕ
with_fraction None digits = None
with_fraction (Some whole) digits = at_most_one (whole + number_of digits * 10 ^ (18 - length digits))

-- The units of a mark, by the texts of its tokens: `0` or `1`, alone or with a point and one to eighteen digits after
-- it, and at most one. None where the mark is no probability.
abbrev pub units_of : List Text → Option ℕ
units_of (x ∷ []) = whole_units x
units_of (x ∷ point ∷ digits ∷ []) =
    if same_text point (codes ".") && is_fraction digits then with_fraction (whole_units x) digits else None
units_of _ = None
