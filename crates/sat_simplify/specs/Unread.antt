-- The clauses of a variable that nothing else has, and what a pass over a list from its end has left of it.
use Rattle.std.specs.Prelude.{◌≡◌, ℕ, ◌-◌, ◌≤◌, ◌<◌, Bool, true, false, if◌then◌else◌, List, [], ◌∷◌, ◌++◌, All, IsTrue, map, take, drop}
use Rattle.std.specs.Prelude.{reverse, length, slice_index_or, refl}
use Rattle.std.specs.List.{list_any, list_all}
use Rattle.sat_clauses.specs.Literal.{Literal, plain, opposite}
use Rattle.sat_clauses.specs.Derivation.{IsUpTo}
use Rattle.sat_clauses.specs.Truth.{is_same}
use Rattle.sat_simplify.specs.SamePlaces.{AreMetAlike, HasNoHigherVariable}
use Rattle.sat_simplify.specs.Resolution.{has_literal}
use Rattle.sat_simplify.specs.CompactNumbers.{IsMarked, compacted_clause}
use Rattle.sat_simplify.specs.ClauseBase.{IsEntered}
use Rattle.sat_simplify.specs.declared.base.Base.{Base}

-- a literal other than l has its opposite in the clause
abbrev pub is_clash : Literal → List Literal → Literal → Bool
is_clash l d m = if is_same m l then false else has_literal (opposite m) d

-- the resolvent of the two clauses on l is a tautology
abbrev pub clash : Literal → List Literal → List Literal → Bool
clash l c d = list_any (is_clash l d) c

-- if the second clause has the opposite of l, that is so
abbrev pub clashes : Literal → List Literal → List Literal → Bool
clashes l c d = if has_literal (opposite l) d then clash l c d else true

-- the clause has l, and all its resolvents with these are tautologies, or it has the opposite of l
abbrev pub is_closed_at : Literal → List (List Literal) → List Literal → Bool
is_closed_at l group c = if has_literal l c then list_all (clashes l c) group else has_literal (opposite l) c

-- each of these clauses has the variable of l, and all their resolvents on it are tautologies
abbrev pub is_closed : Literal → List (List Literal) → Bool
is_closed l group = list_all (is_closed_at l group) group

-- the clauses of the gate 4, which is 2 and 3
example : is_closed (plain 4)
    ((opposite (plain 4) ∷ plain 2 ∷ []) ∷ (opposite (plain 4) ∷ plain 3 ∷ [])
    ∷ (plain 4 ∷ opposite (plain 2) ∷ opposite (plain 3) ∷ []) ∷ [])
    ≡ true
example = refl

-- a number is the highest variable, or more, of the clauses before its place
pub record AreTops (list : List (List Literal)) (tops : List ℕ) : Type 0 where
  pub at : (i : ℕ) → i < length tops → All (All (IsUpTo (slice_index_or tops i 0))) (take i list)

-- the clauses of these places, the last one first
abbrev pub chosen : List (List Literal) → List ℕ → List (List Literal)
chosen list at = map (λ i. slice_index_or list i []) (reverse at)

-- the number is the place of a clause
abbrev pub IsPlaceIn : List (List Literal) → ℕ → Type 0
IsPlaceIn list i = i < length list

-- the clauses before a place and those that were kept say the same of the places as the list
pub record IsLeft (places : ℕ) (list : List (List Literal)) (left : ℕ) (kept : List ℕ) (marks : List Bool) : Type 0 where
  pub within : left ≤ length list
  pub alike : AreMetAlike places list (take left list ++ chosen list kept)
  pub inside : All (IsPlaceIn list) (reverse kept)
  pub marked : All (All (IsMarked places marks)) (chosen list kept)

-- the clauses from the one place to the other are those of a variable that no other clause has and that is no place
pub record CanGo (places : ℕ) (list : List (List Literal)) (marks : List Bool) (left begin : ℕ) : Type 0 where
  pub literal : Literal
  pub top : ℕ
  pub own : places < literal.var
  pub unmarked : slice_index_or marks (literal.var - places - 1) false ≡ false
  pub within : begin ≤ left
  pub low : top < literal.var
  pub before : All (All (IsUpTo top)) (take begin list)
  pub closed : IsTrue (is_closed literal (drop begin (take left list)))

-- the clause of a place, its variables brought down
abbrev pub compacted_at : ℕ → List ℕ → List (List Literal) → ℕ → List Literal
compacted_at places gs list i = compacted_clause places gs (slice_index_or list i [])

-- the base has clauses that say the same of the places as the list, with no higher variables
pub record HasRead (places : ℕ) (list : List (List Literal)) (b : Base) : Type 0 where
  pub read : List (List Literal)
  pub entered : IsEntered places read b
  pub alike : AreMetAlike places list read
  pub low : HasNoHigherVariable list read
