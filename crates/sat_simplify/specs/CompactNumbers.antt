-- Which variables above the places stand, and where they come when those that do not are left out.
use Rattle.std.specs.Prelude.{◌≡◌, ℕ, ◌+◌, ◌-◌, ◌<◌, Bool, true, false, IsTrue, List, [], ◌∷◌, All, map, nat_le, slice_index_or}
use Rattle.std.specs.Prelude.{if◌then◌else◌, refl}
use Rattle.sat_clauses.specs.Literal.{Literal}

-- whatever was marked is so still
pub record KeepsMarks (old new : List Bool) : Type 0 where
  pub at : (i : ℕ) → IsTrue (slice_index_or old i false) → IsTrue (slice_index_or new i false)

-- the literal's variable is marked if it is above the places
pub record IsMarked (places : ℕ) (marks : List Bool) (l : Literal) : Type 0 where
  pub at : places < l.var → IsTrue (slice_index_or marks (l.var - places - 1) false)

-- the variables of a clause are marked, and whatever was marked is so still
pub record HasMarked (places : ℕ) (old new : List Bool) (lits : List Literal) : Type 0 where
  pub has : All (IsMarked places new) lits
  pub keeps : KeepsMarks old new

-- how many are not marked up to one more
abbrev pub gap_after : ℕ → Bool → ℕ
gap_after n true = n
gap_after n false = n + 1

-- for each number how many below it are not marked
abbrev pub gaps : ℕ → List Bool → List ℕ
gaps n [] = []
gaps n (b ∷ marks) = n ∷ gaps (gap_after n b) marks

example : gaps 0 (true ∷ false ∷ true ∷ []) ≡ 0 ∷ 0 ∷ 1 ∷ []
example = refl

-- the variable, down by its gap if it is above the places
abbrev pub compacted : ℕ → List ℕ → ℕ → ℕ
compacted places gs x = if nat_le x places then x else places + 1 + (x - places - 1 - slice_index_or gs (x - places - 1) 0)

-- the literal, its variable brought down
abbrev pub compacted_literal : ℕ → List ℕ → Literal → Literal
compacted_literal places gs l = record { var = compacted places gs l.var; negated = l.negated }

-- the clause, its variables brought down
abbrev pub compacted_clause : ℕ → List ℕ → List Literal → List Literal
compacted_clause places gs c = map (compacted_literal places gs) c

-- the list, its variables brought down
abbrev pub compacted_list : ℕ → List ℕ → List (List Literal) → List (List Literal)
compacted_list places gs list = map (compacted_clause places gs) list
