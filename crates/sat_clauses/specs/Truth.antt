-- What a clause is under an assignment.
use Rattle.std.specs.Prelude.{◌≡◌, ◌⊎◌, ◌||◌, All, Contains, Bool, false, not, List, Option, Some, None, ◌==◌, if◌then◌else◌, find}
use Rattle.std.specs.List.{list_any, list_all}
use Rattle.sat_clauses.specs.Literal.{Literal}
use Rattle.sat_clauses.specs.Code.{code_of}
use Rattle.sat_clauses.specs.Assignment.{Assignment, value_of, is_true_in, is_free_in}
use Rattle.sat_clauses.specs.declared.clause.Truth.{Truth}
use Rattle.sat_clauses.specs.declared.clause.Truth.TheVariants.{True, False, Unit, Unknown}

-- two literals are one
abbrev pub is_same : Literal → Literal → Bool
is_same l m = code_of l == code_of m

-- the clause has no true literal: l is its first free one, if it has any
abbrev pub truth_by_first_free : Assignment → List Literal → Option Literal → Truth
truth_by_first_free a c None = False
truth_by_first_free a c (Some l) =
    if list_all (λ m. is_same m l || not (is_free_in a m)) c then Unit l else Unknown

-- True where some literal is true, False where all are false, Unit l where every literal is false or the free l
abbrev pub truth_of : Assignment → List Literal → Truth
truth_of a c = if list_any (is_true_in a) c then True else truth_by_first_free a c (find (is_free_in a) c)

-- l is free, and every literal is false or l
pub record IsUnit (a : Assignment) (c : List Literal) (l : Literal) : Type 0 where
  pub free : value_of a l ≡ None
  pub in_clause : Contains c l
  pub others_false : All (λ m. (m ≡ l) ⊎ (value_of a m ≡ Some false)) c
