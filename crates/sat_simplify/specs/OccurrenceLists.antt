-- Occurrence lists, and how a clause base keeps them.
use Rattle.std.specs.Prelude.{ℕ, List, [], All, Contains, slice_index_or}
use Rattle.sat_clauses.specs.Literal.{Literal}
use Rattle.sat_clauses.specs.Code.{code_of}

-- the numbers noted at a code
abbrev pub noted_at : List (List ℕ) → ℕ → List ℕ
noted_at occurrences code = slice_index_or occurrences code []

-- whatever was noted is so still
pub record KeepsNotes (old new : List (List ℕ)) : Type 0 where
  pub at : (code i : ℕ) → Contains (noted_at old code) i → Contains (noted_at new code) i

-- a number is noted at each literal of a clause
abbrev pub IsNotedAt : List (List ℕ) → ℕ → Literal → Type 0
IsNotedAt occurrences number l = Contains (noted_at occurrences (code_of l)) number

-- the number is noted at each literal of the clause, and whatever was noted is so still
pub record HasNoted (old new : List (List ℕ)) (lits : List Literal) (number : ℕ) : Type 0 where
  pub has : All (IsNotedAt new number) lits
  pub keeps : KeepsNotes old new
