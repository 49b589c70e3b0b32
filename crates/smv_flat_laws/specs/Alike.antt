-- Instances of one module without formals, which break the same rules, and the instances that repeat others.
use Rattle.std.specs.Prelude.{◌≡◌, ℕ, ◌<◌, List, [], ◌∷◌, ◌++◌, map, Option, Some, None, length, slice_get}
use Rattle.smv_language.specs.Language.{Text, ModuleTree, ProgramTree, Place, find_module, module_at, Each, FlatInstance}
use Rattle.smv_flat_laws.specs.Items.{NumberedItem, items_named, instances_of}
use Rattle.smv_flat_laws.specs.Rules.{Rule, Site, a_use, BreaksAtUse, IsKept, IsWalkable}

-- two instances of one module that has no formals
pub record AreAlike (p : ProgramTree) (a b : Place) : Type 0 where
  pub tree : ModuleTree
  pub first : module_at p a ≡ Some tree
  pub second : module_at p b ≡ Some tree
  pub no_formals : tree.formals ≡ []

-- what is broken in the one, or at an instance inside it, is broken in the other
abbrev pub AlikeBreakAlike : Type 0
AlikeBreakAlike =
    (p : ProgramTree) (a b : Place) → AreAlike p a b → (inside : Place) (name : Text) (i : NumberedItem) (rule : Rule) →
    BreaksAtUse p (record { place = inside ++ b; module_name = name }) i rule →
    BreaksAtUse p (record { place = inside ++ a; module_name = name }) i rule

-- both are at one place inside two instances of one module without formals
pub record RepeatsPlace (p : ProgramTree) (first later : Place) : Type 0 where
  pub inside : Place
  pub first_outer : Place
  pub later_outer : Place
  pub alike : AreAlike p first_outer later_outer
  pub is_first : first ≡ inside ++ first_outer
  pub is_later : later ≡ inside ++ later_outer

-- the instance of a number repeats that of an earlier one
pub record IsLike (p : ProgramTree) (k j : ℕ) : Type 0 where
  pub earlier : j < k
  pub later : FlatInstance
  pub is_later : slice_get (instances_of p) k ≡ Some later
  pub first : FlatInstance
  pub is_first : slice_get (instances_of p) j ≡ Some first
  pub repeats : RepeatsPlace p first.place later.place
  pub same_name : first.module_name ≡ later.module_name

-- the places at which the rules of group three are tried at an instance
abbrev pub uses_at : ProgramTree → FlatInstance → List Site
uses_at p at = map (a_use at) (items_named p at.module_name)

-- an instance that repeats another one breaks none of these rules where the other one breaks none
abbrev pub LikeIsKept : Type 0
LikeIsKept =
    (p : ProgramTree) (k j : ℕ) → (l : IsLike p k j) → Each (IsKept p) (uses_at p l.first) → Each (IsKept p) (uses_at p l.later)

-- an instance of a module without formals repeats each earlier one of that module
abbrev pub SameModuleIsLike : Type 0
SameModuleIsLike =
    (p : ProgramTree) → IsWalkable p → (k j : ℕ) (later first : FlatInstance) (m : ModuleTree) → j < k →
    slice_get (instances_of p) k ≡ Some later → slice_get (instances_of p) j ≡ Some first →
    first.module_name ≡ later.module_name → find_module p later.module_name ≡ Some m → m.formals ≡ [] → IsLike p k j

-- what is declared in an instance that repeats another one repeats what has its name there
abbrev pub InsideIsLike : Type 0
InsideIsLike =
    (p : ProgramTree) → IsWalkable p → (c d : ℕ) → (outer : IsLike p c d) → (k j : ℕ) (later first : FlatInstance) (own : Text) →
    j < k → slice_get (instances_of p) k ≡ Some later → slice_get (instances_of p) j ≡ Some first →
    later.place ≡ own ∷ outer.later.place → first.place ≡ own ∷ outer.first.place → IsLike p k j

-- what repeats an instance that repeats a third one repeats that one
abbrev pub RepeatsAgain : Type 0
RepeatsAgain = (p : ProgramTree) (at bt ct : Place) → RepeatsPlace p at bt → RepeatsPlace p bt ct → RepeatsPlace p at ct

-- what is known of the instance of a number: nothing, or an earlier one that it repeats
abbrev pub IsLikeIf : ProgramTree → ℕ → Option ℕ → Type 0
IsLikeIf p k None = Unit {0}
IsLikeIf p k (Some j) = IsLike p k j

-- of each instance what is known of it
pub record AreLikes (p : ProgramTree) (likes : List (Option ℕ)) : Type 0 where
  pub size : length likes ≡ length (instances_of p)
  pub each : (k : ℕ) (o : Option ℕ) → slice_get likes k ≡ Some o → IsLikeIf p k o
