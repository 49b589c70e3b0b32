-- What a search keeps, and what it answers.
use Rattle.std.specs.Prelude.{◌<◌, ◌≤◌, ◌^◌, ◌≡◌, ◌+◌, ℕ, true, List, [], ◌∷◌, ◌++◌, All, Any, Contains, Option, Some, reverse, take, length}
use Rattle.std.specs.Option.{option_map}
use Rattle.sat_clauses.specs.Literal.{Literal, opposite}
use Rattle.sat_clauses.specs.Assignment.{Assignment, IsInRange, value_of}
use Rattle.sat_clauses.specs.Models.{FollowsFrom}
use Rattle.sat_clauses.specs.declared.clause.Truth.TheVariants.{Unit as UnitClause}
use Rattle.sat_clauses.specs.Derivation.{IsUpTo}
use Rattle.sat_clauses.specs.Hints.{truth_at, HasNoOpposites}
pub use Rattle.sat_clauses.specs.Steps.{IsStep, AreSteps, with_steps}
use Rattle.sat_clauses.specs.declared.step.Step.{Step}
use Rattle.sat_solver.specs.declared.trail.TrailEntry.{TrailEntry}
use Rattle.sat_solver.specs.declared.trail.Reason.{Reason}
use Rattle.sat_solver.specs.declared.trail.Reason.TheVariants.{Assumed, Chosen, Implied}
use Rattle.sat_solver.specs.TrailRecord.{TrailValue}
use Rattle.sat_solver.specs.Trail.{assigned, IsLawful}

-- Why a literal could be made true under the assignment before it: it is an assumption, and so many of the first ones were true; all
-- assumptions were true; or a clause was unit.
abbrev pub IsReason : List (List Literal) → List Literal → Assignment → Literal → Reason → Type 0
IsReason clauses assumptions a l (Assumed count) = Contains assumptions l × All (λ p. value_of a p ≡ Some true) (take count assumptions)
IsReason clauses assumptions a l Chosen = All (λ p. value_of a p ≡ Some true) assumptions
IsReason clauses assumptions a l (Implied number) = truth_at clauses a number ≡ Some (UnitClause l)

-- each literal had its reason when it was made true
abbrev pub IsJustified : List (List Literal) → List Literal → ℕ → List TrailEntry → Type 0
IsJustified clauses assumptions n [] = Unit {0}
IsJustified clauses assumptions n (e ∷ es) =
    IsJustified clauses assumptions n es × IsReason clauses assumptions (assigned n es) e.lit e.reason

-- the trail is lawful, the clauses are over its variables, and each literal had its reason
pub record IsSound (clauses : List (List Literal)) (assumptions : List Literal) (t : TrailValue) : Type 0 where
  pub lawful : IsLawful t
  pub in_range : All (All (IsInRange t.values)) clauses
  pub justified : IsJustified clauses assumptions (length t.values) (reverse t.entries)

-- the clauses have grown by steps, and where a recorder tells its list, it kept these
pub record Grows (vars : ℕ) (old : List (List Literal)) (kept_old : Option (List Step)) (new : List (List Literal))
    (kept_new : Option (List Step)) : Type 0 where
  pub steps : List Step
  pub are_steps : AreSteps vars old steps
  pub clauses : new ≡ with_steps old steps
  pub kept : kept_new ≡ option_map (λ ks. ks ++ steps) kept_old

-- these steps were made, each of which follows from the clauses and the steps before it, and a recorder that tells its
-- list kept them and nothing else
pub record HasKept (vars : ℕ) (clauses : List (List Literal)) (kept_old kept_new : Option (List Step)) : Type 0 where
  pub steps : List Step
  pub are_steps : AreSteps vars clauses steps
  pub kept : kept_new ≡ option_map (λ ks. ks ++ steps) kept_old

-- the literal was made true by no clause
abbrev pub IsDecision : Reason → Type 0
IsDecision (Assumed count) = Unit {0}
IsDecision Chosen = Unit {0}
IsDecision (Implied number) = ⊥

-- the assignment makes all clauses and assumptions true
pub record IsSolution (vars : ℕ) (clauses : List (List Literal)) (assumptions : List Literal) (a : Assignment) : Type 0 where
  pub places : length a ≡ vars + 1
  pub clauses_true : All (λ c. Any (λ l. value_of a l ≡ Some true) c) clauses
  pub assumptions_true : All (λ l. value_of a l ≡ Some true) assumptions

-- the clause has only negated assumptions, and follows; the steps show it, and a recorder that tells its list kept them
pub record IsRefutation (vars : ℕ) (clauses : List (List Literal)) (assumptions : List Literal) (kept_old kept_new : Option (List Step))
    (c : List Literal) : Type 0 where
  pub negated : All (λ l. Contains assumptions (opposite l)) c
  pub follows : FollowsFrom clauses c
  pub steps : List Step
  pub are_steps : AreSteps vars clauses steps
  pub kept : kept_new ≡ option_map (λ ks. ks ++ steps) kept_old
  pub listed : Contains (with_steps clauses steps) c

-- when a search can be asked
pub record CanSolve (most : ℕ) (clauses : List (List Literal)) (assumptions : List Literal) : Type 0 where
  pub vars : most < 2 ^ 62
  pub clauses_in_range : All (All (IsUpTo most)) clauses
  pub assumptions_in_range : All (IsUpTo most) assumptions
  pub apart : HasNoOpposites assumptions

-- the clauses have grown by steps
pub record Extends (vars : ℕ) (old new : List (List Literal)) : Type 0 where
  pub steps : List Step
  pub are_steps : AreSteps vars old steps
  pub clauses : new ≡ with_steps old steps

-- what a search leaves of the panel that advised it: it is ready for the same variables, and was turned to its next adviser at most
-- 64 times
pub record HasAdvised (vars_old rotated_old vars_new rotated_new : ℕ) : Type 0 where
  pub ready : vars_new ≡ vars_old
  pub restarts : rotated_new ≤ rotated_old + 64
