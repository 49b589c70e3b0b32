-- The slots of a clause base: each has a clause, or none once that was taken out.
use Rattle.std.specs.Prelude.{◌≡◌, ℕ, ◌≤◌, Bool, true, false, IsTrue, List, [], Option, Some, None, All, Contains, slice_get, slice_index_or}
use Rattle.std.specs.List.{flat_map}
use Rattle.std.specs.Option.{option_to_list}
use Rattle.sat_clauses.specs.Literal.{Literal}
use Rattle.sat_clauses.specs.Code.{code_of}
use Rattle.sat_clauses.specs.Models.{TotalAssignment, clause_value}

-- a clause, or none
abbrev pub Slot : Type 0
Slot = Option (List Literal)

-- whether a clause stands there
abbrev pub has_clause : Slot → Bool
has_clause None = false
has_clause (Some c) = true

-- the clauses that stand
abbrev pub standing : List Slot → List (List Literal)
standing slots = flat_map option_to_list slots

-- the slot's clause is true
abbrev pub IsMade : TotalAssignment → Slot → Type 0
IsMade v None = Unit {0}
IsMade v (Some c) = IsTrue (clause_value v c)

-- each clause that stands is true
abbrev pub Makes : TotalAssignment → List Slot → Type 0
Makes v slots = All (IsMade v) slots

-- some values that agree on the places make each clause true that stands
pub record IsMetBy (places : ℕ) (slots : List Slot) (v : TotalAssignment) : Type 0 where
  pub values : TotalAssignment
  pub agree : (x : ℕ) → 2 ≤ x → x ≤ places → values x ≡ v x
  pub all : Makes values slots

-- each variable of the clause passes a test
abbrev pub IsOver : (ℕ → Bool) → List Literal → Type 0
IsOver test c = All (λ l. test l.var ≡ true) c

-- each variable of the slot's clause passes a test
abbrev pub IsSlotOver : (ℕ → Bool) → Slot → Type 0
IsSlotOver test None = Unit {0}
IsSlotOver test (Some c) = IsOver test c

-- the new slots say the same of the places, and each of their variables is one of the old
pub record IsSimpler (places : ℕ) (old new : List Slot) : Type 0 where
  pub stays : (v : TotalAssignment) → IsMetBy places old v → IsMetBy places new v
  pub back : (v : TotalAssignment) → IsMetBy places new v → IsMetBy places old v
  pub over : (test : ℕ → Bool) → All (IsSlotOver test) old → All (IsSlotOver test) new

-- each clause that stands is noted at each of its literals
pub record AreNoted (occurrences : List (List ℕ)) (slots : List Slot) : Type 0 where
  pub at : (i : ℕ) (c : List Literal) (l : Literal) → slice_get slots i ≡ Some (Some c) → Contains c l →
      Contains (slice_index_or occurrences (code_of l) []) i
