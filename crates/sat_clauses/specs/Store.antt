-- What holds of a store, and which clauses a literal that became false leaves false or unit.
use Rattle.std.specs.Prelude.{◌≡◌, ◌≢◌, ◌⊎◌, ℕ, ◌+◌, ◌-◌, ◌^◌, ◌<◌, ◌≤◌, Bool, true, false, if◌then◌else◌, ◌&&◌, List, [], ◌∷◌, All}
use Rattle.std.specs.Prelude.{AllPairs, Contains, Some, slice_get, refl}
use Rattle.std.specs.List.{list_any}
use Rattle.sat_clauses.specs.Literal.{Literal, plain, opposite}
use Rattle.sat_clauses.specs.Assignment.{Assignment, all_free, made_true}
use Rattle.sat_clauses.specs.Models.{ClausesBelow}
use Rattle.sat_clauses.specs.Trail.{IsTrail}
use Rattle.sat_clauses.specs.Truth.{truth_of, is_same}
use Rattle.sat_clauses.specs.StoreRecord.{StoreValue}
use Rattle.sat_clauses.specs.declared.clause.Truth.{Truth}
use Rattle.sat_clauses.specs.declared.clause.Truth.TheVariants.{True, False, Unit as UnitClause, Unknown}

-- what holds of each store at every moment
pub record IsStore (s : StoreValue) : Type 0 where
  pub small : s.vars < 2 ^ 62
  pub in_range : ClausesBelow (s.vars + 1) s.clauses
  pub is_trail : IsTrail s.vars s.trail

-- the clause is false, or one literal of it has to be made true
abbrev pub IsFalseOrUnit : Truth → Type 0
IsFalseOrUnit t = (t ≡ False) ⊎ ((m : Literal) × (t ≡ UnitClause m))

-- the clause of this number contains l and is false or unit
pub record IsDue (clauses : List (List Literal)) (a : Assignment) (l : Literal) (number : ℕ) : Type 0 where
  pub clause : List Literal
  pub positive : 1 ≤ number
  pub at : slice_get clauses (number - 1) ≡ Some clause
  pub has : Contains clause l
  pub truth : IsFalseOrUnit (truth_of a clause)

-- these are exactly the numbers of the clauses that contain l and are false or unit, each once
pub record AreExactlyDue (clauses : List (List Literal)) (a : Assignment) (l : Literal) (found : List ℕ) : Type 0 where
  pub due : All (IsDue clauses a l) found
  pub all_due : (number : ℕ) → IsDue clauses a l number → Contains found number
  pub once : AllPairs (λ x y. x ≢ y) found

-- the same, computed
abbrev pub is_false_or_unit : Truth → Bool
is_false_or_unit True = false
is_false_or_unit False = true
is_false_or_unit (UnitClause m) = true
is_false_or_unit Unknown = false

-- the clause contains l, and is false or unit
abbrev pub is_due : Assignment → Literal → List Literal → Bool
is_due a l c = list_any (is_same l) c && is_false_or_unit (truth_of a c)

-- the numbers of those that are due, where the first clause has this number
abbrev pub due_from : Assignment → Literal → ℕ → List (List Literal) → List ℕ
due_from a l number [] = []
due_from a l number (c ∷ cs) =
    if is_due a l c then number ∷ due_from a l (number + 1) cs else due_from a l (number + 1) cs

-- where -2 was just made true, the clause 2 or 2 or 3 is unit
example : due_from (made_true (all_free 4) (opposite (plain 2))) (plain 2) 1 ((plain 2 ∷ plain 2 ∷ plain 3 ∷ [])
    ∷ (opposite (plain 3) ∷ plain 4 ∷ []) ∷ []) ≡ 1 ∷ []
example = refl
