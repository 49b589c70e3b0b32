-- Which rule of instructions is told: the first that is broken, group after group.
use Rattle.std.specs.Prelude.{◌≡◌, ◌≢◌, ℕ, List, Some, map}
use Rattle.smv_language.specs.Language.{Text, ProgramTree, FlatInstance, FlatModel}
use Rattle.fault_instructions.specs.Instructions.{InstructionTree}
use Rattle.smv_flat_laws.specs.Rules.{IsAccepted}
use Rattle.smv_flat_laws.specs.Model.{IsFlatOf}
use Rattle.smv_language.specs.declared.model.Instance.{Instance}
use Rattle.smv_scope.specs.Faults.{rule_of}
use Rattle.smv_types.specs.Answers.{told_rule}
use Rattle.smv_types.specs.Calls.{fault_of}
use Rattle.fault_extend_laws.specs.Uses.{Use}
use Rattle.fault_extend_laws.specs.Expressions.{UseRule, of_names, of_kinds, IsFirstAmong, IsFirstUse, AllUsesKept}
use Rattle.fault_rules.specs.Sites.{item_sites}
use Rattle.fault_rules.specs.Rules.{broken_at}
use Rattle.fault_rules.specs.CountLimits.{count_broken_at}
use Rattle.fault_rules.specs.FirstBroken.{AllKept, IsFirstBroken}
use Rattle.fault_rules.specs.declared.fault.InstructionRule.{InstructionRule}
use Rattle.fault_rules.specs.declared.fault.InstructionRule.TheVariants.{OutOfMemory}
use Rattle.fault_rules.specs.declared.fault.RuleFault.{RuleFault}
use Rattle.fault_extend.specs.declared.fault.WeaveCause.{WeaveCause}
use Rattle.fault_extend.specs.declared.fault.WeaveCause.TheVariants.{Weave, Flat, Kinds}
use Rattle.fault_extend.specs.declared.fault.WeaveFault.{WeaveFault}

-- the modules of instances
abbrev pub modules_in : List Instance → List Text
modules_in instances = map (λ at. at.«module») instances

-- no item breaks a rule of the first group, nor the rule on numbers where these are the modules of all instances
pub record KeepsRules (p : ProgramTree) (i : InstructionTree) (modules : List Text) : Type 0 where
  pub items : AllKept (broken_at p) (item_sites i)
  pub counts : AllKept (count_broken_at modules) (item_sites i)

-- the rule is the first that an item breaks, of the first group, or of numbers where none of the first is broken
pub data IsFirstOfGroups (p : ProgramTree) (i : InstructionTree) (modules : List Text) (rule : InstructionRule) (item : ℕ) : Type 0 where
  of_items : IsFirstBroken (broken_at p) (item_sites i) rule item → IsFirstOfGroups p i modules rule item
  of_counts : AllKept (broken_at p) (item_sites i) → IsFirstBroken (count_broken_at modules) (item_sites i) rule item →
      IsFirstOfGroups p i modules rule item

-- the fault that tells a rule of names or of kinds, with the item 0 inside
abbrev pub IsCauseOf : WeaveCause → UseRule → Type 0
IsCauseOf (Weave rule) r = ⊥
IsCauseOf (Flat fault) (of_names r) = (rule_of fault.rule ≡ Some r) × (fault.item ≡ 0)
IsCauseOf (Flat fault) (of_kinds r) = ⊥
IsCauseOf (Kinds fault) (of_names r) = ⊥
IsCauseOf (Kinds fault) (of_kinds r) = fault ≡ fault_of (told_rule r)

-- the cause tells a rule of which this holds
pub record TellsRule (cause : WeaveCause) (P : UseRule → Type 0) : Type 0 where
  pub rule : UseRule
  pub is_cause : IsCauseOf cause rule
  pub holds : P rule

-- a rule on expressions is told where all items keep theirs, and where it is the first that a mode breaks over the program's flat model
pub record IsToldOfUses (p : ProgramTree) (m : FlatModel) (i : InstructionTree) (modules : List Text) (cause : WeaveCause)
    (item : ℕ) : Type 0 where
  pub kept : KeepsRules p i modules
  pub first : IsAccepted p → IsFlatOf p m → TellsRule cause (λ r. IsFirstUse p m i r item)

-- a rule of the weave is told where it is the first, and one on expressions where all items keep theirs
abbrev pub IsToldBy : ProgramTree → FlatModel → InstructionTree → List Text → WeaveCause → ℕ → Type 0
IsToldBy p m i modules (Weave rule) item = rule ≢ OutOfMemory → IsFirstOfGroups p i modules rule item
IsToldBy p m i modules (Flat fault) item = IsToldOfUses p m i modules (Flat fault) item
IsToldBy p m i modules (Kinds fault) item = IsToldOfUses p m i modules (Kinds fault) item

-- the fault is the first that the instructions have, by the groups of rules
abbrev pub IsTold : ProgramTree → FlatModel → InstructionTree → List Text → WeaveFault → Type 0
IsTold p m i modules fault = IsToldBy p m i modules fault.cause fault.item

-- a fault of expressions: want of memory, or a rule of names or of kinds
abbrev pub IsOfExpressions : WeaveCause → Type 0
IsOfExpressions (Weave rule) = rule ≡ OutOfMemory
IsOfExpressions (Flat fault) = Unit {0}
IsOfExpressions (Kinds fault) = Unit {0}

-- so of a fault with its item
abbrev pub IsFromExpressions : WeaveFault → Type 0
IsFromExpressions fault = IsOfExpressions fault.cause

-- the fault of a rule
abbrev pub of_rule : RuleFault → WeaveFault
of_rule fault = record { cause = Weave fault.rule; item = fault.item }

-- the fault says that memory was wanting
abbrev pub IsWant : WeaveFault → Type 0
IsWant fault = fault.cause ≡ Weave OutOfMemory

-- want of memory, or a rule of which this holds
abbrev pub IsWantOr : WeaveCause → (UseRule → Type 0) → Type 0
IsWantOr (Weave rule) P = rule ≡ OutOfMemory
IsWantOr (Flat fault) P = TellsRule (Flat fault) P
IsWantOr (Kinds fault) P = TellsRule (Kinds fault) P

-- want of memory, or the first rule that these modes break
abbrev pub IsFirstFault : ProgramTree → FlatModel → List Use → WeaveFault → Type 0
IsFirstFault p m among fault = IsWantOr fault.cause (λ r. IsFirstAmong p m among r fault.item)

-- the modules of all instances
abbrev pub modules_at : FlatModel → List Text
modules_at m = map (λ (at : FlatInstance). at.module_name) m.instances

-- no item breaks a rule that is judged over the program's flat model: one on numbers, with the modules of its instances, or one on
-- expressions
pub record KeepsModelRules (p : ProgramTree) (m : FlatModel) (i : InstructionTree) : Type 0 where
  pub counts : AllKept (count_broken_at (modules_at m)) (item_sites i)
  pub uses : AllUsesKept p m i

-- the same of a program whose model isn't at hand: a fault with item 0 is one of the program itself
abbrev pub IsToldSomewhere : ProgramTree → InstructionTree → WeaveFault → Type 0
IsToldSomewhere p i fault = (fault.item ≢ 0) → (m : FlatModel) × IsFlatOf p m × IsTold p m i (modules_at m) fault
