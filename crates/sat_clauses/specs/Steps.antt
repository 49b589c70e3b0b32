-- Derivations: lists of steps that each follow by its hints.
use Rattle.std.specs.Prelude.{ℕ, List, [], ◌∷◌, ◌++◌, All}
use Rattle.sat_clauses.specs.Literal.{Literal}
use Rattle.sat_clauses.specs.Derivation.{IsUpTo}
use Rattle.sat_clauses.specs.Hints.{assumed_false, EndsFalse, HasNoOpposites}
use Rattle.sat_clauses.specs.declared.step.Step.{Step}

-- the step's clause follows by its hints, over variables up to vars
pub record IsStep (vars : ℕ) (clauses : List (List Literal)) (s : Step) : Type 0 where
  pub ends : EndsFalse clauses (assumed_false vars s.clause) s.hints
  pub in_range : All (IsUpTo vars) s.clause
  pub no_opposites : HasNoOpposites s.clause

-- each step follows by its hints from the clauses and the steps before it
abbrev pub AreSteps : ℕ → List (List Literal) → List Step → Type 0
AreSteps vars clauses [] = Unit {0}
AreSteps vars clauses (s ∷ ss) = IsStep vars clauses s × AreSteps vars (clauses ++ s.clause ∷ []) ss

-- the clauses of these steps come after the others
abbrev pub with_steps : List (List Literal) → List Step → List (List Literal)
with_steps clauses [] = clauses
with_steps clauses (s ∷ ss) = with_steps (clauses ++ s.clause ∷ []) ss
