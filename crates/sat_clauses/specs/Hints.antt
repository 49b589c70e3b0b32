-- Which clause follows from numbered clauses by hints, and how hints fail.
use Rattle.std.specs.Prelude.{◌≡◌, ◌≢◌, ◌⊎◌, ℕ, ◌+◌, ◌-◌, ◌==◌, if◌then◌else◌, List, [], ◌∷◌, ◌++◌, length, All, Contains, Option, Some}
use Rattle.std.specs.Prelude.{None, fold, slice_get}
use Rattle.std.specs.Option.{option_map}
use Rattle.sat_clauses.specs.Literal.{Literal, opposite}
use Rattle.sat_clauses.specs.Assignment.{Assignment, all_free, made_true}
use Rattle.sat_clauses.specs.Truth.{truth_of}
use Rattle.sat_clauses.specs.declared.clause.Truth.{Truth}
use Rattle.sat_clauses.specs.declared.clause.Truth.TheVariants.{False, Unit as UnitClause}

-- the opposite of l is not in the clause
pub record LacksOpposite (c : List Literal) (l : Literal) : Type 0 where
  pub absent : ¬ (Contains c (opposite l))

-- no literal of the clause has its opposite there
abbrev pub HasNoOpposites : List Literal → Type 0
HasNoOpposites c = All (LacksOpposite c) c

-- the clause of this number, from 1
abbrev pub clause_at : List (List Literal) → ℕ → Option (List Literal)
clause_at clauses number = if number == 0 then None else slice_get clauses (number - 1)

-- what the hinted clause is, or None where no clause has that number
abbrev pub truth_at : List (List Literal) → Assignment → ℕ → Option Truth
truth_at clauses a hint = option_map (truth_of a) (clause_at clauses hint)

-- every literal of the clause is made false
abbrev pub made_false : Assignment → List Literal → Assignment
made_false a c = fold (λ b l. made_true b (opposite l)) a c

-- each hint's clause is unit at its turn and its literal is then made true, and so a becomes b
abbrev pub LeadsTo : List (List Literal) → Assignment → List ℕ → Assignment → Type 0
LeadsTo clauses a [] b = b ≡ a
LeadsTo clauses a (hint ∷ hints) b =
    (l : Literal) × (truth_at clauses a hint ≡ Some (UnitClause l)) × LeadsTo clauses (made_true a l) hints b

-- from a on, each hint's clause is unit at its turn, but the last one's, which is false
pub record EndsFalse (clauses : List (List Literal)) (a : Assignment) (hints : List ℕ) : Type 0 where
  pub units : List ℕ
  pub last : ℕ
  pub at_last : Assignment
  pub in_turn : hints ≡ units ++ last ∷ []
  pub all_unit : LeadsTo clauses a units at_last
  pub is_false : truth_at clauses at_last last ≡ Some False

-- the hint names no clause, or one that is neither unit nor false
abbrev pub IsUseless : Option Truth → Type 0
IsUseless t = (t ≢ Some False) × ((l : Literal) → t ≢ Some (UnitClause l))

-- the hint of this number, from 1, is the first that is useless or comes after a false clause
pub record FailsAt (clauses : List (List Literal)) (a : Assignment) (hints : List ℕ) (number : ℕ) : Type 0 where
  pub before : List ℕ
  pub hint : ℕ
  pub after : List ℕ
  pub in_turn : hints ≡ before ++ hint ∷ after
  pub place : number ≡ length before + 1
  pub cause : ((b : Assignment) × LeadsTo clauses a before b × IsUseless (truth_at clauses b hint)) ⊎ EndsFalse clauses a before

-- all hints are used, and none was false
abbrev pub EndsOpen : List (List Literal) → Assignment → List ℕ → Type 0
EndsOpen clauses a hints = (b : Assignment) × LeadsTo clauses a hints b

-- where the hints begin: the clause is false, and every other variable up to vars free
abbrev pub assumed_false : ℕ → List Literal → Assignment
assumed_false vars c = made_false (all_free vars) c
