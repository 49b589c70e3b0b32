-- The fault of a list of hints, computed.
use Rattle.std.specs.Prelude.{ℕ, ◌+◌, List, [], ◌∷◌, Option, Some, None}
use Rattle.sat_clauses.specs.Literal.{Literal}
use Rattle.sat_clauses.specs.Assignment.{Assignment, made_true}
use Rattle.sat_clauses.specs.declared.clause.Truth.{Truth}
use Rattle.sat_clauses.specs.declared.clause.Truth.TheVariants.{False, Unit as UnitClause}
use Rattle.sat_clauses.specs.Hints.{truth_at}
use Rattle.sat_clauses.specs.declared.step.StepFault.{StepFault}
use Rattle.sat_clauses.specs.declared.step.StepFault.TheVariants.{BadHint, NoConflict}

-- a false clause at number i has these hints after it
abbrev pub fault_after_false : ℕ → List ℕ → Option StepFault
fault_after_false i [] = None
fault_after_false i (hint ∷ hints) = Some (BadHint (i + 1))

-- what a hint of number i leads to, by what its clause is: go says how it goes on from a unit
abbrev pub fault_by : Option Truth → ℕ → List ℕ → (Literal → Option StepFault) → Option StepFault
fault_by (Some (UnitClause l)) i hints go = go l
fault_by (Some False) i hints go = fault_after_false i hints
fault_by _ i hints go = Some (BadHint i)

-- the first of these hints has the number i, and a stands before it
abbrev pub fault_of : List (List Literal) → Assignment → ℕ → List ℕ → Option StepFault
fault_of clauses a i [] = Some NoConflict
fault_of clauses a i (hint ∷ hints) =
    fault_by (truth_at clauses a hint) i hints (λ l. fault_of clauses (made_true a l) (i + 1) hints)
