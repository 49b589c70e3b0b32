-- What the answer of a checker says of a step.
use Rattle.std.proofs.Common.{◌≡◌, ℕ, List, Result, Ok, Err, sym, subst, ◌∙◌}
use Rattle.std.specs.Prelude.{◌↔◌, ◌≤◌, All, IsErrOf, length}
use Rattle.sat_clauses.specs.Literal.{Literal}
use Rattle.sat_clauses.specs.CanTake.{CanTake}
use Rattle.sat_clauses.specs.Derivation.{Derivation, IsUpTo, Appends}
use Rattle.sat_clauses.specs.Hints.{HasNoOpposites, FailsAt, EndsOpen, assumed_false}
use Rattle.sat_clauses.specs.declared.step.Step.{Step}
use Rattle.sat_clauses.specs.declared.step.StepFault.{StepFault}
use Rattle.sat_clauses.specs.declared.step.StepFault.TheVariants.{BadHint, NoConflict}
use Rattle.cert_derivations.specs.Steps.{HasItsLiterals, BreaksStep, foreign, hint, no_false, IsTaken, fault_rule}

module _ {A : Type 0} (d : Derivation) (s : Step) (can : CanTake d s.clause) (r : Result A StepFault)
    (bad : (i : ℕ) → IsErrOf r (BadHint i) ↔ FailsAt d.clauses (assumed_false d.vars s.clause) s.hints i) (opened : IsErrOf r NoConflict ↔ EndsOpen d.clauses (assumed_false d.vars s.clause) s.hints) where
  its_literals : HasItsLiterals d.vars d.clauses s
  its_literals = (can.in_range, can.no_opposites)

  ok_not : {B : Type 0} (x : A) (fault : StepFault) → r ≡ Ok x → IsErrOf r fault → B
  ok_not x fault e f = absurd (bad_ok (sym e ∙ f))
    where
      bad_ok : Ok x ≡ Err fault → ⊥
      bad_ok e = cc

  pub taken : (x : A) (new : Derivation) → r ≡ Ok x → Appends d s.clause new → IsTaken d.vars d.clauses s new
  taken x new e appends = record {
    vars = appends.vars;
    clauses = appends.clauses;
    literals = its_literals;
    hints = λ n f. ok_not x (BadHint n) e ((bad n).1 f);
    conflict = λ f. ok_not x NoConflict e (opened.1 f);
  }

  differ : (n : ℕ) → r ≡ Err NoConflict → r ≡ Err (BadHint n) → ⊥
  differ n e f = cc

  pub breaks : (fault : StepFault) → r ≡ Err fault → BreaksStep d.vars d.clauses s (fault_rule fault)
  breaks (BadHint n) e = hint its_literals (λ good. good n ((bad n).0 e))
  breaks NoConflict e = no_false its_literals (λ n f. differ n e ((bad n).1 f)) (λ closed. closed (opened.0 e))

-- what has other literals breaks the rule of them
pub other_literals : (most v : ℕ) (known : List (List Literal)) (s : Step) (ls : List Literal) → v ≡ most → ls ≡ s.clause → (All (IsUpTo v) ls × HasNoOpposites ls → ⊥) → BreaksStep most known s 8
other_literals most v known s ls p e cannot =
    foreign (λ h. cannot (subst (λ x. All (IsUpTo v) x) (sym e) (subst (λ n. All (IsUpTo n) s.clause) (sym p) h.0), subst HasNoOpposites (sym e) h.1))

-- what has its literals can be taken where there is room
pub with_room : (d : Derivation) (c ls : List Literal) → ls ≡ c → 1 ≤ d.spare_clauses → length ls ≤ d.spare_lits → All (IsUpTo d.vars) ls × HasNoOpposites ls → CanTake d c
with_room d c ls e room lits h = subst (CanTake d) e (record { room_for_clause = room; room_for_lits = lits; in_range = h.0; no_opposites = h.1 })
