-- What the weave needs of a program and instructions beside its own rules: the rules of flattening and of kinds.
use Rattle.std.specs.Prelude.{◌≡◌}
use Rattle.smv_language.specs.Language.{Text, DeclaredTree, ModuleTree, ProgramTree, Place, Role, a_variable, kind_in, IsInstance, Each}
use Rattle.fault_instructions.specs.Instructions.{ModeTree, SliceTree, InstructionTree, slices_of}
use Rattle.fault_instructions.specs.Types.{IsUniform}
use Rattle.fault_instructions.specs.Weavable.{Among, IsReadableEffect, IsLawfulInstance, IsLawfulGuard, IsWeavable}
use Rattle.fault_rules.specs.Sites.{item_sites}
use Rattle.fault_rules.specs.Rules.{broken_at}
use Rattle.fault_rules.specs.FirstBroken.{AllKept}

-- the guard and what is followed are judged at the instance
pub record IsJudgedMode (p : ProgramTree) (at : Place) (m : ModuleTree) (mode : ModeTree) : Type 0 where
  pub effect : IsReadableEffect p at mode.effect
  pub guard : IsLawfulGuard p at m mode.guard

-- a program and instructions without a fault of names and kinds, as far as a weave asks
pub record IsJudged (p : ProgramTree) (i : InstructionTree) : Type 0 where
  -- the program breaks no rule of flattening
  pub instances : (at : Place) (m : ModuleTree) → IsInstance p at m → IsLawfulInstance p at m
  -- and none of kinds: members of a type are all numbers or all symbols
  pub uniform : (at : Place) (m : ModuleTree) (x : Text) (role : Role) (type : DeclaredTree) → IsInstance p at m →
      kind_in m x ≡ a_variable role type → IsUniform type
  pub modes : (at : Place) (m : ModuleTree) (s : SliceTree) → IsInstance p at m → Among (slices_of i m.name) s →
      Each (IsJudgedMode p at m) s.modes

-- where no item breaks a rule, a program and instructions that are judged are such as a weave takes
abbrev pub KeptIsWeavable : Type 0
KeptIsWeavable = (p : ProgramTree) (i : InstructionTree) → IsJudged p i → AllKept (broken_at p) (item_sites i) → IsWeavable p i
