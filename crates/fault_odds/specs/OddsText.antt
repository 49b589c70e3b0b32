-- The text of bounds and of their sum.
use Rattle.std.specs.Prelude.{ℕ, zero, suc, ◌+◌, ◌/◌, ◌%◌, List, [], ◌∷◌, ◌++◌, codes, decimal, map}
use Rattle.smv_language.specs.ProgramTree.{Text}
use Rattle.fault_odds.specs.Units.{one_in_units}
use Rattle.fault_odds.specs.Bounds.{bound_of, units_in, bound_sum, slack_of}

-- so many last decimal digits of a number
abbrev pub last_digits : ℕ → ℕ → Text
last_digits zero n = []
last_digits (suc k) n = last_digits k (n / 10) ++ (48 + n % 10) ∷ []

-- a number of units: its whole part, a point, and eighteen digits
abbrev pub units_text : ℕ → Text
units_text n = decimal (n / one_in_units) ++ (codes "." ++ last_digits 18 n)

-- `odds`, the number of the set, and its bound
abbrev pub odds_line : ℕ → List ℕ → Text
odds_line i ps = codes "odds " ++ (decimal i ++ (codes " " ++ (units_text (bound_of ps) ++ codes "\n")))

-- such a line for each set, numbered on from a number
abbrev pub odds_lines : ℕ → List (List ℕ) → Text
odds_lines i [] = []
odds_lines i (ps ∷ sets) = odds_line i ps ++ odds_lines (suc i) sets

-- the sum of the bounds, and by how much it may be above
abbrev pub sum_line : List (List ℕ) → Text
sum_line sets = codes "sum " ++ (units_text (bound_sum sets) ++ (codes " within " ++ (decimal (slack_of sets) ++ codes "\n")))

-- the text of the sets' bounds and their sum, by the units of the faults
abbrev pub odds_text : List ℕ → List (List ℕ) → Text
odds_text odds sets = odds_lines 1 (map (units_in odds) sets) ++ sum_line (map (units_in odds) sets)
