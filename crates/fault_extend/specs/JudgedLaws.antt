-- What the rules of names and of kinds say of guards and of what is followed.
use Rattle.std.specs.Prelude.{◌≡◌, false, List, [], Option, Some, None}
use Rattle.smv_language.specs.Language.{Tree, Text, Formula, DeclaredTree, ModuleTree, ProgramTree, Place, Role, a_variable, kind_in}
use Rattle.smv_language.specs.Language.{IsInstance, Each, FlatLeaf, FlatModel}
use Rattle.fault_instructions.specs.Instructions.{EffectTree, EachArgument, ModeTree, SliceTree, InstructionTree, slices_of}
use Rattle.fault_instructions.specs.Types.{IsUniform}
use Rattle.smv_flat_laws.specs.NameResolution.{Definition, Resolver, IsSound, IsResolved, has_next}
use Rattle.smv_flat_laws.specs.Rules.{IsAccepted}
use Rattle.smv_flat_laws.specs.Model.{IsFlatOf}
use Rattle.smv_type_laws.specs.Models.{judged_in, broken_condition, IsTyped}
use Rattle.smv_flat_laws.specs.Looks.{ActualsMean}
use Rattle.fault_instructions.specs.Weavable.{Among, IsLawfulInstance}
use Rattle.fault_rules.specs.Prerequisites.{IsJudgedMode, IsJudged}

module _ (p : ProgramTree) (m : FlatModel) (written : List Definition) (at : Place) where
  -- a guard at an instance: its names mean something, it has no `next`, and its flat form breaks no rule as a condition
  pub record IsGoodCondition (e : Formula) : Type 0 where
    pub resolver : Resolver
    pub sound : IsSound p m written resolver
    pub flat : Tree FlatLeaf
    pub resolved : IsResolved (resolver at) e flat
    pub no_next : has_next e ≡ false
    pub kept : broken_condition (judged_in m false flat) ≡ []

  -- what is followed at an instance: its names mean something, and its flat form breaks no rule
  pub record IsGoodValue (e : Formula) : Type 0 where
    pub resolver : Resolver
    pub sound : IsSound p m written resolver
    pub flat : Tree FlatLeaf
    pub resolved : IsResolved (resolver at) e flat
    pub no_next : has_next e ≡ false
    pub kept : (judged_in m false flat).broken ≡ []

  -- what an effect follows at an instance, if it follows something, is good
  abbrev pub IsGoodEffect : EffectTree → Type 0
  IsGoodEffect e = EachArgument (λ c. Unit {0}) IsGoodValue (λ n. Unit {0}) e

  -- a guard, if one is written, is good
  abbrev pub IsGoodGuard : Option Formula → Type 0
  IsGoodGuard None = Unit {0}
  IsGoodGuard (Some e) = IsGoodCondition e

  -- what the rules judge of a mode at an instance
  pub record IsGoodMode (mode : ModeTree) : Type 0 where
    pub effect : IsGoodEffect mode.effect
    pub guard : IsGoodGuard mode.guard

-- a mode that is good at an instance of a program that breaks no rule is judged there: a guard has exactly one truth value
abbrev pub GoodModesAreJudged : Type 0
GoodModesAreJudged =
    (p : ProgramTree) (m : FlatModel) → IsAccepted p → (is : IsFlatOf p m) → IsTyped m → (at : Place) (k : ModuleTree) (mode : ModeTree) →
    IsGoodMode p m is.written at mode → IsJudgedMode p at k mode

-- members of a type of a program that breaks no rule are all numbers or all symbols
abbrev pub TypesAreUniform : Type 0
TypesAreUniform =
    (p : ProgramTree) (m : FlatModel) → IsAccepted p → IsFlatOf p m → IsTyped m →
    (at : Place) (k : ModuleTree) (x : Text) (role : Role) (type : DeclaredTree) →
    IsInstance p at k → kind_in k x ≡ a_variable role type → IsUniform type

-- each instance of a program that breaks no rule of names, whose actuals mean something, is such as the weave takes
abbrev pub InstancesAreLawful : Type 0
InstancesAreLawful = (p : ProgramTree) (m : FlatModel) → IsAccepted p → IsFlatOf p m → ActualsMean p → (at : Place) (k : ModuleTree) →
    IsInstance p at k → IsLawfulInstance p at k

-- each mode is good at each instance of its slice's module
abbrev pub AreGoodModes : ProgramTree → FlatModel → List Definition → InstructionTree → Type 0
AreGoodModes p m written i = (at : Place) (k : ModuleTree) (s : SliceTree) → IsInstance p at k → Among (slices_of i k.name) s →
    Each (IsGoodMode p m written at) s.modes

-- Instructions whose modes are good are judged, where the names at each instance of the program mean something.
abbrev pub GoodIsJudged : Type 0
GoodIsJudged =
    (p : ProgramTree) (m : FlatModel) (i : InstructionTree) → IsAccepted p → (is : IsFlatOf p m) → IsTyped m →
    ((at : Place) (k : ModuleTree) → IsInstance p at k → IsLawfulInstance p at k) →
    AreGoodModes p m is.written i → IsJudged p i
