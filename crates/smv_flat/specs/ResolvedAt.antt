-- An instance of a program by its number in the flat model, and which rule an expression breaks there.
use Rattle.std.specs.Prelude.{◌≡◌, ℕ, Bool, false, Some, slice_get, IfSome, Result, IfOk, IfErr, OnOk}
use Rattle.smv_language.specs.Language.{Path, Formula, ProgramTree, Place, tree_of, FlatInstance, FlatModel, flat_tree}
use Rattle.smv_language.specs.declared.expr.Expr.{Expr}
use Rattle.smv_language.specs.declared.model.Flat.{Flat}
use Rattle.smv_flat_laws.specs.Rules.{IsAccepted}
use Rattle.smv_flat_laws.specs.ValueRules.{IsLeastBroken, KeepsValue}
use Rattle.smv_flat_laws.specs.Model.{IsFlatOf}
use Rattle.smv_flat_laws.specs.NameResolution.{has_next}
use Rattle.smv_flat_laws.specs.ResolvedAt.{IsResolvedAt}
use Rattle.smv_scope.specs.declared.fault.FlatFault.{FlatFault}
use Rattle.smv_scope.specs.Faults.{rule_of}

-- the model is the accepted program's, and the instance is one of it
pub record IsAt (p : ProgramTree) (m : FlatModel) (number : ℕ) (at : FlatInstance) : Type 0 where
  pub accepted : IsAccepted p
  pub flat : IsFlatOf p m
  pub is_at : slice_get m.instances number ≡ Some at

-- the fault is the least rule that the value breaks, at item 0, or want of memory
abbrev pub IsValueFault : ProgramTree → Place → Bool → Formula → FlatFault → Type 0
IsValueFault p at inputs e f = IfSome (rule_of f.rule) (λ r. (f.item ≡ 0) × IsLeastBroken p at inputs e r)

-- What an answer for an expression tells at the instance of a number.

-- what is made means what the expression means there
abbrev pub ResolvesAt : ProgramTree → FlatModel → ℕ → Expr Path → Result (Expr Flat) FlatFault → Type 0
ResolvesAt p m number e answer = (at : FlatInstance) → IsAt p m number at →
    IfOk answer (λ made. IsResolvedAt p m at.place (tree_of e) (flat_tree made))

-- an expression that is resolved has no `next`
abbrev pub HasNoNextAt : ProgramTree → FlatModel → ℕ → Expr Path → Result (Expr Flat) FlatFault → Type 0
HasNoNextAt p m number e answer = (at : FlatInstance) → IsAt p m number at → OnOk answer (has_next (tree_of e) ≡ false)

-- and breaks no rule there
abbrev pub KeepsAt : ProgramTree → FlatModel → ℕ → Bool → Expr Path → Result (Expr Flat) FlatFault → Type 0
KeepsAt p m number inputs e answer = (at : FlatInstance) → IsAt p m number at → OnOk answer (KeepsValue p at.place inputs (tree_of e))

-- a refusal is the least rule that the expression breaks there, or want of memory
abbrev pub TellsAt : ProgramTree → FlatModel → ℕ → Bool → Expr Path → Result (Expr Flat) FlatFault → Type 0
TellsAt p m number inputs e answer = (at : FlatInstance) → IsAt p m number at → IfErr answer (IsValueFault p at.place inputs (tree_of e))
