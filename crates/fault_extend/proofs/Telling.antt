-- What a weave tells, by what its parts tell.
use Rattle.std.proofs.Common.{◌≡◌, ℕ, List, [], ◌∷◌, map, refl, sym, ap, subst}
use Rattle.std.specs.Prelude.{Result, Ok, Err, OnOk, IfErr}
use Rattle.std.proofs.Common.{inl, inr}
use Rattle.smv_language.specs.Language.{Text, ProgramTree, FlatInstance, FlatModel, instance_tree}
use Rattle.fault_instructions.specs.Instructions.{InstructionTree}
use Rattle.smv_flat_laws.specs.Rules.{IsAccepted}
use Rattle.smv_flat_laws.specs.Model.{IsFlatOf}
use Rattle.smv_type_laws.specs.Models.{IsTyped}
use Rattle.smv_type_laws.proofs.Typed.{typed_has_none}
use Rattle.smv_language.specs.declared.model.Instance.{Instance}
use Rattle.smv_types.specs.Faults.{IsOfMemory, IsToldOf}
use Rattle.smv_types.specs.declared.fault.TypeFault.{TypeFault}
use Rattle.fault_extend_laws.specs.Uses.{uses}
use Rattle.fault_extend_laws.specs.Expressions.{AllUsesKept}
use Rattle.fault_rules.specs.CountLimits.{count_broken_at}
use Rattle.fault_rules.specs.FirstBroken.{AllKept}
use Rattle.fault_rules.specs.Sites.{item_sites}
use Rattle.fault_extend.specs.declared.fault.WeaveCause.{WeaveCause}
use Rattle.fault_extend.specs.declared.fault.WeaveCause.TheVariants.{Weave, Flat, Kinds}
use Rattle.fault_extend.specs.declared.fault.WeaveFault.{WeaveFault}
use Rattle.fault_extend.specs.FirstRefusal.{modules_in, modules_at, KeepsRules, KeepsModelRules, IsToldBy, IsTold, IsOfExpressions, IsFromExpressions, IsWant, IsFirstFault, IsToldSomewhere}

module _ (p : ProgramTree) (m : FlatModel) (i : InstructionTree) (modules : List Text) where
  fault_told : (cause : WeaveCause) (item : ℕ) → KeepsRules p i modules → IsOfExpressions cause → (IsAccepted p → IsFlatOf p m → IsFirstFault p m (uses p i) (record { cause = cause; item = item })) → IsToldBy p m i modules cause item
  fault_told (Weave rule) item kept want first = λ other. absurd (other want)
  fault_told (Flat fault) item kept want first = record { kept = kept; first = first }
  fault_told (Kinds fault) item kept want first = record { kept = kept; first = first }

  -- the first rule on expressions is told where the items keep theirs
  pub uses_told : (r : Result (Unit {0}) WeaveFault) → KeepsRules p i modules → IfErr r IsFromExpressions → (IsAccepted p → IsFlatOf p m → IfErr r (IsFirstFault p m (uses p i))) → IfErr r (IsTold p m i modules)
  uses_told (Ok x) kept want first = tt
  uses_told (Err f) kept want first = fault_told f.cause f.item kept want first

  -- want of memory tells nothing
  pub want_is_told : (f : WeaveFault) → IsWant f → IsTold p m i modules f
  want_is_told f want = subst (λ cause. IsToldBy p m i modules cause f.item) (sym want) (λ other. absurd (other refl))

pub modules_same : (xs : List Instance) → modules_in xs ≡ map (λ (at : FlatInstance). at.module_name) (map instance_tree xs)
modules_same [] = refl
modules_same (x ∷ xs) = ap (λ ns. x.«module» ∷ ns) (modules_same xs)

-- a typed model has no fault but want of memory
pub typed_wants : (m : FlatModel) (f : TypeFault) → IsTyped m → IsToldOf m f → IsOfMemory f
typed_wants m f typed (inl want) = want
typed_wants m f typed (inr told) = absurd (typed_has_none m told.rule f.item typed told.is_fault)

pub told_somewhere : {T : Type 0} (p : ProgramTree) (m : FlatModel) (i : InstructionTree) (r : Result T WeaveFault) → IsFlatOf p m → IfErr r (IsTold p m i (modules_at m)) → IfErr r (IsToldSomewhere p i)
told_somewhere p m i (Ok x) is told = tt
told_somewhere p m i (Err f) is told = λ other. (m, is, told)

-- no rule is broken that is judged over the flat model, on numbers or on expressions
pub both_kept : {T E : Type 0} (p : ProgramTree) (m : FlatModel) (i : InstructionTree) (r : Result T E) → OnOk r (AllKept (count_broken_at (modules_at m)) (item_sites i)) → OnOk r (AllUsesKept p m i) → OnOk r (KeepsModelRules p m i)
both_kept p m i (Ok x) counts uses = record { counts = counts; uses = uses }
both_kept p m i (Err x) counts uses = tt
