-- How high the trees are that the machine holds.
use Rattle.std.specs.Prelude.{◌≡◌, ℕ, ◌<◌, max, Bool, true, false, List, [], ◌∷◌}
use Rattle.base_values.specs.declared.limits.TheConstants.{MOST_HEIGHT}
use Rattle.smv_language.specs.Tree.{height_of, trees_height, branches_height, trees_from, branches_from}
use Rattle.smv_expression_reader.specs.TreeBuilder.{Part, left_part, answered, asked, set_part, condition_part, outcome_part, other_hand}
use Rattle.smv_expression_reader.specs.TreeBuilder.{Build, ready, name_on, high_on, minus_high_on, next_on, branch_on, holds, broken, value}
use Rattle.smv_expression_reader.specs.TreeBuilder.{Held}

-- the height of the highest tree that a part holds
abbrev pub part_height : Part → ℕ
part_height (left_part o a) = height_of a
part_height (answered c a) = max (height_of c) (height_of a)
part_height (asked c) = height_of c
part_height (set_part ts) = trees_height (trees_from ts)
part_height (condition_part bs) = branches_height (branches_from bs)
part_height (outcome_part bs c) = max (branches_height (branches_from bs)) (height_of c)
part_height _ = 0

-- the same of all parts
abbrev pub parts_height : List Part → ℕ
parts_height [] = 0
parts_height (p ∷ ps) = max (part_height p) (parts_height ps)

-- the height of the highest tree at hand
abbrev pub tallest : Build → ℕ
tallest (ready ps) = parts_height ps
tallest (name_on p ps) = parts_height ps
tallest (high_on lo ps) = parts_height ps
tallest (minus_high_on lo ps) = parts_height ps
tallest (next_on ps) = parts_height ps
tallest (branch_on bs ps) = max (branches_height (branches_from bs)) (parts_height ps)
tallest (holds h ps) = max (height_of (value h)) (parts_height ps)
tallest broken = 0

-- and of an operand with what waits
abbrev pub held_height : Held → ℕ
held_height h = max (height_of h.tree) (parts_height h.parts)

-- what stands at hand, the operand left out while it may still become longer
abbrev pub highest : Build → ℕ
highest (holds (other_hand t) ps) = max (height_of t) (parts_height ps)
highest (holds h ps) = parts_height ps
highest st = tallest st

-- the machine still goes on
abbrev pub is_whole : Build → Bool
is_whole broken = false
is_whole _ = true

-- a tree that is higher than `MOST_HEIGHT` stands at hand, unless nothing goes on
abbrev pub TooHigh : Build → Type 0
TooHigh st = is_whole st ≡ true → MOST_HEIGHT < tallest st
