-- The laws of the rules on expressions of modes, as statements.
use Rattle.std.specs.Prelude.{◌≡◌, ℕ}
use Rattle.smv_language.specs.Language.{ProgramTree, FlatModel}
use Rattle.fault_instructions.specs.Instructions.{InstructionTree}
use Rattle.smv_flat_laws.specs.Rules.{IsAccepted}
use Rattle.smv_flat_laws.specs.Model.{IsFlatOf}
use Rattle.fault_extend_laws.specs.Expressions.{UseRule, AllUsesKept, IsFirstUse}

-- instructions have at most one first broken rule on the expressions of their modes, with one item
abbrev pub OneUse : Type 0
OneUse =
    (p : ProgramTree) (m : FlatModel) (i : InstructionTree) (r q : UseRule) (n k : ℕ) → IsAccepted p → IsFlatOf p m →
    IsFirstUse p m i r n → IsFirstUse p m i q k → (r ≡ q) × (n ≡ k)

-- and none where all modes keep the rules
abbrev pub KeptHaveNone : Type 0
KeptHaveNone = (p : ProgramTree) (m : FlatModel) (i : InstructionTree) (r : UseRule) (n : ℕ) → IsAccepted p → IsFlatOf p m →
    AllUsesKept p m i → IsFirstUse p m i r n → ⊥
