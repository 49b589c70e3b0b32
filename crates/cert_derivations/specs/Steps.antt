-- What is found of one step of a derivation.
use Rattle.std.specs.Prelude.{◌≡◌, ℕ, List, [], ◌∷◌, ◌++◌, Option, Some, None, All}
use Rattle.sat_clauses.specs.Literal.{Literal}
use Rattle.sat_clauses.specs.Derivation.{Derivation, IsUpTo}
use Rattle.sat_clauses.specs.Hints.{HasNoOpposites, FailsAt, EndsOpen, assumed_false}
use Rattle.sat_clauses.specs.declared.step.Step.{Step}
use Rattle.sat_clauses.specs.declared.step.StepFault.{StepFault}
use Rattle.sat_clauses.specs.declared.step.StepFault.TheVariants.{BadHint, NoConflict}

-- over variables up to the highest, after the clauses that are known
module _ (most : ℕ) (known : List (List Literal)) (s : Step) where
  -- rule 8: over variables up to the highest, and no literal with its opposite
  abbrev pub HasItsLiterals : Type 0
  HasItsLiterals = All (IsUpTo most) s.clause × HasNoOpposites s.clause

  -- rule 9: no hint is the first that is useless
  abbrev pub HasNoBadHint : Type 0
  HasNoBadHint = (n : ℕ) → FailsAt known (assumed_false most s.clause) s.hints n → ⊥

  -- rule 10: the hints do not run out before one is false
  abbrev pub HasFalseHint : Type 0
  HasFalseHint = EndsOpen known (assumed_false most s.clause) s.hints → ⊥

  -- the rule that the step breaks first
  pub data BreaksStep : ℕ → Type 0 where
    foreign : (HasItsLiterals → ⊥) → BreaksStep 8
    hint : HasItsLiterals → (HasNoBadHint → ⊥) → BreaksStep 9
    no_false : HasItsLiterals → HasNoBadHint → (HasFalseHint → ⊥) → BreaksStep 10

  -- the step breaks none, and its clause comes after the others
  pub record IsTaken (new : Derivation) : Type 0 where
    pub vars : new.vars ≡ most
    pub clauses : new.clauses ≡ known ++ s.clause ∷ []
    pub literals : HasItsLiterals
    pub hints : HasNoBadHint
    pub conflict : HasFalseHint

  -- what is answered: nothing of a step that was taken, or the rule that it breaks first
  abbrev pub FindsStep : Derivation → Option ℕ → Type 0
  FindsStep new None = IsTaken new
  FindsStep new (Some number) = BreaksStep number

-- the rule of a fault of hints
abbrev pub fault_rule : StepFault → ℕ
fault_rule (BadHint n) = 9
fault_rule NoConflict = 10
