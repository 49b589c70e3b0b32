-- What becomes of the clauses that watch a literal which was just made false.
use Rattle.std.specs.Prelude.{◌≡◌, ◌≢◌, ◌⊎◌, ℕ, ◌+◌, ◌<◌, ◌≤◌, Bool, true, false, not, ◌==◌, ◌&&◌, List, [], All, AllPairs, Contains, Some}
use Rattle.std.specs.Prelude.{unwrap_or, length, slice_index_or}
use Rattle.sat_clauses.specs.Literal.{Literal}
use Rattle.sat_clauses.specs.Code.{code_of}
use Rattle.sat_clauses.specs.Assignment.{Assignment, IsInRange, value_of}
use Rattle.sat_clauses.specs.Truth.{truth_of}
use Rattle.sat_clauses.specs.Store.{is_false_or_unit}
use Rattle.sat_solver.specs.Threads.{at}
use Rattle.sat_solver.specs.Watch.{HasTrue, HasCode, OthersFalse}

-- the clause at a place, from 0
abbrev pub clause_of : List (List Literal) → ℕ → List Literal
clause_of clauses i = slice_index_or clauses i []

-- the clause is false, or has one literal that is to be made true
abbrev pub is_hit : Assignment → List Literal → Bool
is_hit a c = is_false_or_unit (truth_of a c)

-- the literal may be watched in place of one that became false: it is not false, and not the other one
abbrev pub may_watch : Assignment → ℕ → Literal → Bool
may_watch a other m = not (code_of m == other) && unwrap_or (value_of a m) true

-- a clause of which l, now false, and the literal with the other code are watched
pub record CanVisit (a : Assignment) (c : List Literal) (l : Literal) (other : ℕ) : Type 0 where
  pub listed : Contains c l
  pub is_false : value_of a l ≡ Some false
  pub apart : code_of l ≢ other
  pub no_spare : other ≢ 1
  pub has : other ≢ 0 → HasCode c other
  pub alone : other ≡ 0 → All (λ m. code_of m ≡ code_of l) c
  pub ready : (m : Literal) → Contains c m → code_of m ≡ other → value_of a m ≡ Some false → HasTrue a c ⊎ OthersFalse a c (code_of l) other

-- the clauses of a literal that is false can be visited, and none of them was found
pub record CanPass (a : Assignment) (l : Literal) (clauses : List (List Literal)) (homes others found : List ℕ) : Type 0 where
  pub in_range : All (All (IsInRange a)) clauses
  pub literal : IsInRange a l
  pub known : (i : ℕ) → at homes i ≡ code_of l → i < length clauses
  pub other_places : length clauses ≤ length others
  pub no_spare : (i : ℕ) → at homes i ≢ 1
  pub visit : (i : ℕ) → at homes i ≡ code_of l → CanVisit a (clause_of clauses i) l (at others i)
  pub once : AllPairs (λ x y. x ≢ y) found
  pub not_yet : (i : ℕ) → at homes i ≡ code_of l → ¬ (Contains found (i + 1))

-- no other literal can be watched, or none has to
abbrev pub IsKept : Assignment → List Literal → ℕ → Type 0
IsKept a c other = HasTrue a c ⊎ All (λ m. (code_of m ≡ other) ⊎ (value_of a m ≡ Some false)) c

-- the literal with this code is watched from now on
pub record IsMoved (a : Assignment) (c : List Literal) (other code : ℕ) : Type 0 where
  pub literal : Literal
  pub listed : Contains c literal
  pub coded : code_of literal ≡ code
  pub real : 2 ≤ code
  pub not_false : value_of a literal ≢ Some false
  pub apart : code ≢ other

-- where the clause goes: to the list of what was visited, or to that of another literal
abbrev pub IsNewList : Assignment → List Literal → ℕ → ℕ → ℕ → Type 0
IsNewList a c other visited code = ((code ≡ visited) × IsKept a c other) ⊎ IsMoved a c other code

-- the clause at this place watched l and is hit
pub record IsHitAt (a : Assignment) (l : Literal) (clauses : List (List Literal)) (old : List ℕ) (number : ℕ) (i : ℕ) : Type 0 where
  pub numbered : number ≡ i + 1
  pub watched : at old i ≡ code_of l
  pub is_hit : is_hit a (clause_of clauses i) ≡ true

-- the clause of this number is such a one and was visited
pub record WasHit (a : Assignment) (l : Literal) (clauses : List (List Literal)) (old now : List ℕ) (number : ℕ) : Type 0 where
  pub place : ℕ
  pub hit : IsHitAt a l clauses old number place
  pub visited : at now place ≢ code_of l

-- some of the clauses that watched l were visited: the others watch as before, and those that are hit were found
pub record IsPassing (a : Assignment) (l : Literal) (clauses : List (List Literal)) (others old now before found : List ℕ) : Type 0 where
  pub places : length now ≡ length old
  pub rest : (i : ℕ) → at old i ≢ code_of l → at now i ≡ at old i
  pub visited : (i : ℕ) → at old i ≡ code_of l → at now i ≢ code_of l → IsNewList a (clause_of clauses i) (at others i) 1 (at now i)
  pub hits : All (λ number. Contains before number ⊎ WasHit a l clauses old now number) found
  pub all_hits : (i : ℕ) → at old i ≡ code_of l → at now i ≢ code_of l → is_hit a (clause_of clauses i) ≡ true → Contains found (i + 1)
  pub kept : All (Contains found) before
  pub once : AllPairs (λ x y. x ≢ y) found

-- all of them were visited
pub record IsPassed (a : Assignment) (l : Literal) (clauses : List (List Literal)) (others old new before found : List ℕ) : Type 0 where
  pub places : length new ≡ length old
  pub rest : (i : ℕ) → at old i ≢ code_of l → at new i ≡ at old i
  pub visited : (i : ℕ) → at old i ≡ code_of l → IsNewList a (clause_of clauses i) (at others i) (code_of l) (at new i)
  pub no_spare : (i : ℕ) → at new i ≢ 1
  pub hits : All (λ number. Contains before number ⊎ ((i : ℕ) × IsHitAt a l clauses old number i)) found
  pub all_hits : (i : ℕ) → at old i ≡ code_of l → is_hit a (clause_of clauses i) ≡ true → Contains found (i + 1)
  pub kept : All (Contains found) before
  pub once : AllPairs (λ x y. x ≢ y) found
