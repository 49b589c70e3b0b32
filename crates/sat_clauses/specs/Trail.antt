-- What the literals of a trail make true. The oldest comes first.
use Rattle.std.specs.Prelude.{◌≡◌, ◌<◌, ℕ, List, [], ◌∷◌, None, length, refl}
use Rattle.sat_clauses.specs.Literal.{Literal, plain, opposite}
use Rattle.sat_clauses.specs.Assignment.{Assignment, all_free, value_of, made_true}

-- the assignment once these literals are made true too, one after the other
abbrev pub assigned_from : Assignment → List Literal → Assignment
assigned_from a [] = a
assigned_from a (l ∷ ls) = assigned_from (made_true a l) ls

-- the assignment of the variables up to vars that makes exactly these literals true
abbrev pub assigned_by : ℕ → List Literal → Assignment
assigned_by vars ls = assigned_from (all_free vars) ls

-- each literal is in range and free when it is made true, so no variable stands there twice
abbrev pub AreFresh : Assignment → List Literal → Type 0
AreFresh a [] = Unit {0}
AreFresh a (l ∷ ls) = (l.var < length a) × (value_of a l ≡ None) × AreFresh (made_true a l) ls

-- the literals are a trail over the variables up to vars
abbrev pub IsTrail : ℕ → List Literal → Type 0
IsTrail vars ls = AreFresh (all_free vars) ls

-- -2, then 1: variable 3 is free
example : assigned_by 3 (opposite (plain 2) ∷ plain 1 ∷ []) ≡ made_true (made_true (all_free 3) (plain 1)) (opposite (plain 2))
example = refl
