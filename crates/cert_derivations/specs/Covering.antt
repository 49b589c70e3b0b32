-- Clauses that cover none, among those of a derivation.
use Rattle.std.specs.Prelude.{◌≡◌, ◌<◌, ◌≤◌, ℕ, List, Some, All, Contains, slice_get}
use Rattle.sat_clauses.specs.Literal.{Literal}

-- no clause from a start up to but not including an end has all its literals among those needed
abbrev pub CoversNoneIn : List (List Literal) → List Literal → ℕ → ℕ → Type 0
CoversNoneIn clauses needed start end =
    (j : ℕ) (clause : List Literal) → start ≤ j → j < end → slice_get clauses j ≡ Some clause → All (Contains needed) clause → ⊥
