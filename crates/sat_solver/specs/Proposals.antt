-- When what a kernel proposes is right.
use Rattle.std.specs.Prelude.{◌≡◌, ℕ, Bool, true, List, [], Any, Contains, Option, Some}
use Rattle.sat_clauses.specs.Literal.{Literal}
use Rattle.sat_clauses.specs.Assignment.{Assignment, value_of}
use Rattle.sat_clauses.specs.Models.{FollowsFrom}
use Rattle.sat_clauses.specs.StoreRecord.{StoreValue}
use Rattle.sat_clauses.specs.declared.step.Step.{Step}
use Rattle.sat_solver.specs.TrailRecord.{TrailValue}
use Rattle.sat_solver.specs.Trail.{IsIdle}
use Rattle.sat_solver.specs.Search.{Grows, IsSolution}
use Rattle.sat_solver.specs.LearnedClauses.{IsRefuted}
use Rattle.sat_solver.specs.declared.solve.Verdict.{Verdict}
use Rattle.sat_solver.specs.declared.solve.Verdict.TheVariants.{Sat, Unsat}

-- a literal of the clause is true
abbrev pub HasTrue : Assignment → List Literal → Type 0
HasTrue a c = Any (λ l. value_of a l ≡ Some true) c

-- the assignment makes the added clauses and the assumptions true; the clause follows from all clauses
abbrev pub IsRight : Bool → ℕ → List (List Literal) → List (List Literal) → List (List Literal) → List Literal → Verdict → Type 0
IsRight cores vars added old new assumptions (Sat a) = IsSolution vars added assumptions a
IsRight cores vars added old new assumptions (Unsat c) = IsRefuted cores old new assumptions c

-- the clause is true in every model of the clauses before, and where cores are kept it is one of those after
pub record IsShown (cores : Bool) (old new : List (List Literal)) (c : List Literal) : Type 0 where
  pub listed : cores ≡ true → Contains new c
  pub follows : FollowsFrom old c

-- a question was answered rightly: the clauses have grown by steps that were kept, and no literal is true any more
pub record IsAnswered (cores : Bool) (assumptions : List Literal) (added : List (List Literal)) (old new : StoreValue)
    (kept_old kept_new : Option (List Step)) (t : TrailValue) (verdict : Verdict) : Type 0 where
  pub right : IsRight cores old.vars added old.clauses new.clauses assumptions verdict
  pub grows : Grows old.vars old.clauses kept_old new.clauses kept_new
  pub vars : new.vars ≡ old.vars
  pub trail : new.trail ≡ []
  pub idle : IsIdle old.vars t
