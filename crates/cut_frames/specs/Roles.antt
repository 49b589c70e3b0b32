-- The variables of a search over several lists and the frames: what each stands for, and which values that gives it.
use Rattle.std.specs.Prelude.{ℕ, ◌+◌, ◌-◌, List, ◌∷◌, map, nat_le, if◌then◌else◌}
use Rattle.sat_clauses.specs.Literal.{Literal, plain, opposite}

-- a list that stands in the search under a guard of its own
pub data Listed : Type 0 where
  first : Listed
  step : Listed
  bad : Listed

-- What a variable stands for: itself, where it is one of states and inputs; the guard of a frame, from number 1 on; the guard of
-- a list; a gate of a list, by its number there; one that is not asked about any more; and nothing yet.
pub data Role : Type 0 where
  place : Role
  frame_guard : ℕ → Role
  list_guard : Listed → Role
  gate : Listed → ℕ → Role
  retired : Role
  unused : Role

-- the number of a variable of a list, where those above the places stand from another number on
abbrev pub renamed : ℕ → ℕ → ℕ → ℕ
renamed places base x = if nat_le x places then x else x - places + base

-- the literal, its variable renumbered
abbrev pub renamed_literal : ℕ → ℕ → Literal → Literal
renamed_literal places base l = record { var = renamed places base l.var; negated = l.negated }

-- the clause, its variables renumbered
abbrev pub renamed_clause : ℕ → ℕ → List Literal → List Literal
renamed_clause places base c = map (renamed_literal places base) c

-- a clause under a guard
abbrev pub under_guard : ℕ → List Literal → List Literal
under_guard guard c = opposite (plain guard) ∷ c

-- the clauses of a list under its guard, with its gates renamed
abbrev pub under_list : ℕ → ℕ → ℕ → List (List Literal) → List (List Literal)
under_list places base guard list = map (λ c. under_guard guard (renamed_clause places base c)) list
