-- The laws of what a weave tells, as statements.
use Rattle.std.specs.Prelude.{◌≡◌, List}
use Rattle.smv_language.specs.Language.{Text, ProgramTree, FlatModel}
use Rattle.fault_instructions.specs.Instructions.{InstructionTree}
use Rattle.smv_flat_laws.specs.Rules.{IsAccepted}
use Rattle.smv_flat_laws.specs.Model.{IsFlatOf}
use Rattle.fault_extend_laws.specs.Expressions.{AllUsesKept}
use Rattle.fault_extend.specs.declared.fault.WeaveFault.{WeaveFault}
use Rattle.fault_extend.specs.FirstRefusal.{KeepsRules, IsTold, IsWant}

-- of instructions for a program at most one fault is told, want of memory apart
abbrev pub OneTold : Type 0
OneTold =
    (p : ProgramTree) (m : FlatModel) (i : InstructionTree) (modules : List Text) (a b : WeaveFault) → IsAccepted p → IsFlatOf p m →
    IsTold p m i modules a → IsTold p m i modules b →
    (IsWant a → ⊥) → (IsWant b → ⊥) → a ≡ b

-- and none where all rules are kept
abbrev pub KeptTellNone : Type 0
KeptTellNone =
    (p : ProgramTree) (m : FlatModel) (i : InstructionTree) (modules : List Text) (fault : WeaveFault) → IsAccepted p → IsFlatOf p m →
    KeepsRules p i modules → AllUsesKept p m i →
    IsTold p m i modules fault → (IsWant fault → ⊥) → ⊥
