-- What a search that is kept over many questions has learned.
use Rattle.std.specs.Prelude.{◌≡◌, ◌^◌, ◌<◌, ℕ, Bool, true, false, List, [], ◌∷◌, ◌++◌, All, Contains, Option, length, replicate}
use Rattle.std.specs.Option.{option_map}
use Rattle.sat_clauses.specs.Literal.{Literal, opposite}
use Rattle.sat_clauses.specs.Models.{FollowsFrom}
use Rattle.sat_clauses.specs.StoreRecord.{StoreValue}
use Rattle.sat_clauses.specs.Derivation.{IsUpTo}
use Rattle.sat_clauses.specs.declared.step.Step.{Step}
use Rattle.sat_solver.specs.TrailRecord.{TrailValue}
use Rattle.sat_solver.specs.Trail.{IsIdle}
use Rattle.sat_solver.specs.declared.solve.Verdict.{Verdict}
use Rattle.sat_solver.specs.declared.solve.Verdict.TheVariants.{Sat, Unsat}
use Rattle.sat_solver.specs.Search.{AreSteps, with_steps, Grows, IsSolution}

-- the clauses that were added, where the marks say which were learned
abbrev pub added_of : List (List Literal) → List Bool → List (List Literal)
added_of [] ms = []
added_of (c ∷ cs) [] = []
added_of (c ∷ cs) (true ∷ ms) = added_of cs ms
added_of (c ∷ cs) (false ∷ ms) = c ∷ added_of cs ms

-- the clauses by arrival over an empty trail, each of which, added or learned, is true in every model of those that were added
pub record IsKept (s : StoreValue) (marks : List Bool) : Type 0 where
  pub small : s.vars < 2 ^ 62
  pub empty : s.trail ≡ []
  pub marked : length marks ≡ length s.clauses
  pub in_range : All (All (IsUpTo s.vars)) s.clauses
  pub follow : All (FollowsFrom (added_of s.clauses marks)) s.clauses

-- a search that never wanted memory is kept well, and its trail has no literal
abbrev pub IsSearch : Bool → StoreValue → List Bool → TrailValue → Type 0
IsSearch false s marks t = IsKept s marks × IsIdle s.vars t
IsSearch true s marks t = Unit {0}

-- what was learned since: these steps, which a recorder that tells its list kept
pub record HasLearned (vars : ℕ) (old : List (List Literal)) (marks_old : List Bool) (kept_old : Option (List Step))
    (new : List (List Literal)) (marks_new : List Bool) (kept_new : Option (List Step)) : Type 0 where
  pub steps : List Step
  pub are_steps : AreSteps vars old steps
  pub clauses : new ≡ with_steps old steps
  pub marks : marks_new ≡ marks_old ++ replicate (length steps) true
  pub kept : kept_new ≡ option_map (λ ks. ks ++ steps) kept_old

-- the clause has only negated assumptions, is true in every model of the added clauses, and where cores are kept it is one
-- of all clauses
pub record IsRefuted (cores : Bool) (added all : List (List Literal)) (assumptions : List Literal) (c : List Literal) : Type 0 where
  pub negated : All (λ l. Contains assumptions (opposite l)) c
  pub follows : FollowsFrom added c
  pub listed : cores ≡ true → Contains all c

-- the answer to a question under assumptions
abbrev pub IsAnswer : Bool → ℕ → List (List Literal) → List (List Literal) → List Literal → Verdict → Type 0
IsAnswer cores vars added all assumptions (Sat a) = IsSolution vars added assumptions a
IsAnswer cores vars added all assumptions (Unsat c) = IsRefuted cores added all assumptions c

-- a question was answered: the clauses have grown by steps that were kept, and the trail has no literal
pub record IsFound (cores : Bool) (assumptions : List Literal) (vars : ℕ) (old new : List (List Literal))
    (kept_old kept_new : Option (List Step)) (t : TrailValue) (verdict : Verdict) : Type 0 where
  pub answer : IsAnswer cores vars old new assumptions verdict
  pub grows : Grows vars old kept_old new kept_new
  pub idle : IsIdle vars t
