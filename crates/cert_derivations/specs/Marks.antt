-- Literals marked in a table, which has a place for each code of a window: 4096 codes one after the other.
use Rattle.std.specs.Prelude.{◌≡◌, ℕ, ◌/◌, ◌%◌, ◌==◌, if◌then◌else◌, Bool, true, false, List, Contains, slice_index_or, slice_set}
use Rattle.sat_clauses.specs.Literal.{Literal, opposite}
use Rattle.sat_clauses.specs.Code.{code_of}

-- whether a literal is marked in the table of a window
abbrev pub is_marked : List Bool → ℕ → Literal → Bool
is_marked marks window l = if code_of l / 4096 == window then slice_index_or marks (code_of l % 4096) false else false

-- the table of a window once a literal is marked, where its code is in the window
abbrev pub marked : ℕ → List Bool → Literal → List Bool
marked window marks l = if code_of l / 4096 == window then slice_set marks (code_of l % 4096) true else marks

-- the opposite of l is not in the clause, if its code is in the window
pub record LacksIn (window : ℕ) (c : List Literal) (l : Literal) : Type 0 where
  pub absent : code_of (opposite l) / 4096 ≡ window → Contains c (opposite l) → ⊥
