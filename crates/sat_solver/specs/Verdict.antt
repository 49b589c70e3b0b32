-- What a search answers.
use Rattle.std.specs.Prelude.{◌≡◌, ◌+◌, ◌≤◌, ℕ, Bool, true, List, All, Contains, Option, Some, None, length, slice_get}
use Rattle.sat_solver.specs.declared.trail.TrailEntry.{TrailEntry}
use Rattle.sat_clauses.specs.Literal.{Literal, opposite}
use Rattle.sat_clauses.specs.Assignment.{Assignment, value_of}
use Rattle.sat_clauses.specs.Models.{FollowsFrom}
use Rattle.sat_clauses.specs.declared.step.Step.{Step}
use Rattle.sat_solver.specs.declared.solve.Verdict.{Verdict}
use Rattle.sat_solver.specs.declared.solve.Verdict.TheVariants.{Sat, Unsat}
use Rattle.sat_solver.specs.Search.{IsSolution, IsRefutation}
use Rattle.sat_solver.specs.TrailRecord.{TrailValue}
use Rattle.sat_solver.specs.Score.{score}
use Rattle.sat_solver.specs.ClauseFindings.{IsTrueIn}

-- an answer is right: a solution, or a refutation whose steps were kept
abbrev pub IsVerdict : ℕ → List (List Literal) → List Literal → Option (List Step) → Option (List Step) → Verdict → Type 0
IsVerdict vars clauses assumptions kept_old kept_new (Sat a) = IsSolution vars clauses assumptions a
IsVerdict vars clauses assumptions kept_old kept_new (Unsat c) = IsRefutation vars clauses assumptions kept_old kept_new c

-- all clauses and assumptions are true
pub record IsFull (clauses : List (List Literal)) (assumptions : List Literal) (a : Assignment) : Type 0 where
  pub all_true : All (IsTrueIn a) clauses
  pub assumed : All (λ l. value_of a l ≡ Some true) assumptions

-- the clause has only negated assumptions and is true in every model of these, and where cores are kept it is one of them
pub record IsCore (cores : Bool) (clauses : List (List Literal)) (assumptions : List Literal) (c : List Literal) : Type 0 where
  pub listed : cores ≡ true → Contains clauses c
  pub negated : All (λ l. Contains assumptions (opposite l)) c
  pub follows : FollowsFrom clauses c

-- the trail has come further
abbrev pub IsFurther : TrailValue → TrailValue → Type 0
IsFurther old new = score (length old.values) old.entries + 1 ≤ score (length old.values) new.entries

-- what one more step of the search gives
abbrev pub IsAdvance : Bool → List (List Literal) → List Literal → TrailValue → TrailValue → Option Verdict → Type 0
IsAdvance cores clauses assumptions old new None = IsFurther old new
IsAdvance cores clauses assumptions old new (Some (Sat a)) = IsFull clauses assumptions a × (length a ≡ length old.values)
IsAdvance cores clauses assumptions old new (Some (Unsat c)) = IsCore cores clauses assumptions c

-- what a false clause brings: a trail that has come further, or a clause that refutes the assumptions and was kept
abbrev pub IsLesson : List (List Literal) → List Literal → TrailValue → TrailValue → Option (List Literal) → Type 0
IsLesson clauses assumptions old new None = IsFurther old new
IsLesson clauses assumptions old new (Some c) = IsCore true clauses assumptions c

-- the entry at this place has this literal
abbrev pub IsAt : List TrailEntry → ℕ → Literal → Type 0
IsAt entries i l = (e : TrailEntry) × (slice_get entries i ≡ Some e) × (e.lit ≡ l)

-- a clause that refutes is one of these
abbrev pub IsAmong : List (List Literal) → Verdict → Type 0
IsAmong clauses (Sat a) = Unit {0}
IsAmong clauses (Unsat c) = Contains clauses c
