-- What a list of clauses says of its places, and when another list says the same.
use Rattle.std.specs.Prelude.{◌≡◌, ℕ, ◌≤◌, ◌<◌, ◌↔◌, ◌⊎◌, List, IsTrue, All}
use Rattle.sat_clauses.specs.Literal.{Literal}
use Rattle.sat_clauses.specs.Derivation.{IsUpTo}
use Rattle.sat_clauses.specs.Models.{TotalAssignment, all_true}

-- a list whose variables other than its places are its own: some values that agree on the places make it true
pub record IsMet (places : ℕ) (list : List (List Literal)) (v : TotalAssignment) : Type 0 where
  pub values : TotalAssignment
  pub agree : (x : ℕ) → 2 ≤ x → x ≤ places → values x ≡ v x
  pub all : IsTrue (all_true values list)

-- the variable is the list's own: it is no place
abbrev pub IsOwn : ℕ → ℕ → Type 0
IsOwn places x = (x < 2) ⊎ (places < x)

-- the two lists can be made true with the same values of the places
abbrev pub AreMetAlike : ℕ → List (List Literal) → List (List Literal) → Type 0
AreMetAlike places old new = (v : TotalAssignment) → IsMet places old v ↔ IsMet places new v

-- where each variable of the old list is at most so high, so is each of the new list
pub record HasNoHigherVariable (old new : List (List Literal)) : Type 0 where
  pub at : (top : ℕ) → All (All (IsUpTo top)) old → All (All (IsUpTo top)) new
