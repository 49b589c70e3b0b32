-- How the derivations of a certificate are made by a search: one query for each goal.
use Rattle.std.specs.Prelude.{◌≡◌, ◌<◌, ◌^◌, ◌++◌, List, [], ◌∷◌, Contains, Option}
use Rattle.std.specs.Option.{option_map}
use Rattle.sat_clauses.specs.Literal.{Literal}
use Rattle.sat_clauses.specs.Models.{FollowsFrom}
use Rattle.sat_clauses.specs.Hints.{HasNoOpposites}
use Rattle.sat_clauses.specs.Steps.{AreSteps, with_steps}
use Rattle.sat_clauses.specs.declared.step.Step.{Step}
use Rattle.sat_solver.specs.Search.{CanSolve}
use Rattle.sat_solver.specs.Verdict.{IsVerdict}
use Rattle.sat_solver.specs.declared.solve.Verdict.{Verdict}
use Rattle.sat_solver.specs.declared.solve.Verdict.TheVariants.{Unsat}
use Rattle.cert_laws.specs.Certificate.{Certificate, Part, steps_in}
use Rattle.cert_laws.specs.Acceptance.{Subject, givens, goals, Covers, highest}
use Rattle.cert_laws.specs.Derivations.{asked, IsDerived}

-- A derivation so far: its steps follow from the given clauses, over variables up to their highest, and some goals are covered.
pub record IsSoFar (clauses : List (List Literal)) (done : List Step) (covered : List (List Literal)) : Type 0 where
  pub are_steps : AreSteps (highest clauses) clauses done
  pub covers : (goal : List Literal) → Contains covered goal → Covers (with_steps clauses done) goal

-- the search refuted, its recorder has kept the steps, and with these the goal is covered too
pub record IsOneFurther (clauses : List (List Literal)) (done : List Step) (covered : List (List Literal)) (goal : List Literal)
    (kept_old kept_new : Option (List Step)) (verdict : Verdict) : Type 0 where
  pub core : List Literal
  pub is_unsat : verdict ≡ Unsat core
  pub steps : List Step
  pub kept : kept_new ≡ option_map (λ ks. ks ++ steps) kept_old
  pub so_far : IsSoFar clauses (done ++ steps) (covered ++ goal ∷ [])

-- A search is asked over the clauses and the steps so far, with the highest variable of the given ones, what is asked for a goal that
-- follows from them: it may be asked, and any verdict is one step further.
abbrev pub QueriesDerive : Type 0
QueriesDerive =
    (clauses : List (List Literal)) (done : List Step) (covered : List (List Literal)) (goal : List Literal) → highest clauses < 2 ^ 62 →
    IsSoFar clauses done covered → HasNoOpposites goal → FollowsFrom clauses goal →
    CanSolve (highest clauses) (with_steps clauses done) (asked (highest clauses) goal)
    × ((kept_old kept_new : Option (List Step)) (verdict : Verdict) →
    IsVerdict (highest clauses) (with_steps clauses done) (asked (highest clauses) goal) kept_old kept_new verdict →
    IsOneFurther clauses done covered goal kept_old kept_new verdict)

-- and once all goals of a part are covered, it is derived
abbrev pub AllCoveredIsDerived : Type 0
AllCoveredIsDerived =
    (subject : Subject) (c : Certificate) (part : Part) → IsSoFar (givens subject c part) (steps_in c part) (goals subject c part) →
    IsDerived subject c part
