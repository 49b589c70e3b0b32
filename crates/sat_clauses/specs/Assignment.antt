-- Assignments that leave variables free: for each variable its value, or None where it is free.
-- The place 0 is no variable's.
use Rattle.std.specs.Prelude.{ℕ, ◌+◌, ◌<◌, Bool, false, not, List, length, Option, Some, None, unwrap_or, is_none, slice_index_or}
use Rattle.std.specs.Prelude.{slice_set, replicate}
use Rattle.std.specs.Option.{option_map}
use Rattle.sat_clauses.specs.Literal.{Literal, signed}

-- a place for each number up to the highest variable
abbrev pub Assignment : Type 0
Assignment = List (Option Bool)

-- every variable is free
abbrev pub all_free : ℕ → Assignment
all_free vars = replicate (vars + 1) None

-- the assignment has a place for the literal's variable
abbrev pub IsInRange : Assignment → Literal → Type 0
IsInRange a l = l.var < length a

-- what a literal is, or None where its variable is free
abbrev pub value_of : Assignment → Literal → Option Bool
value_of a l = option_map (signed l.negated) (slice_index_or a l.var None)

-- the literal is true
abbrev pub is_true_in : Assignment → Literal → Bool
is_true_in a l = unwrap_or (value_of a l) false

-- the literal's variable is free
abbrev pub is_free_in : Assignment → Literal → Bool
is_free_in a l = is_none (value_of a l)

-- the literal is made true, and no other variable changes
abbrev pub made_true : Assignment → Literal → Assignment
made_true a l = slice_set a l.var (Some (not l.negated))
