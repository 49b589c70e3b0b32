-- The rules on guards and on what is followed, and the first that instructions break.
use Rattle.std.specs.Prelude.{◌≡◌, ◌⊎◌, ◌<◌, ℕ, Bool, true, false, List, [], ◌∷◌, ◌++◌, Option, Some, None}
use Rattle.smv_language.specs.Language.{Tree, Formula, DeclaredTree, ProgramTree, Place, Each, FlatLeaf, FlatModel}
use Rattle.fault_instructions.specs.Instructions.{EffectTree, of_expression, InstructionTree}
use Rattle.smv_flat_laws.specs.Rules.{Rule, number_of}
use Rattle.smv_flat_laws.specs.ValueRules.{BreaksValue}
use Rattle.smv_flat_laws.specs.ResolvedAt.{IsResolvedAt}
use Rattle.smv_type_laws.specs.ExpressionKinds.{KindRule, mismatch, not_boolean, truth_class, unless_class}
use Rattle.smv_type_laws.specs.DeclaredKinds.{judged_declared}
use Rattle.smv_type_laws.specs.Models.{judged_in, least}
use Rattle.fault_extend_laws.specs.Uses.{Use, uses}

-- what an effect follows
abbrev pub followed : EffectTree → Option Formula
followed (of_expression k e) = Some e
followed _ = None

-- the expression, where there is one, breaks the rule as the value of a DEFINE, which may read inputs or not
abbrev pub SomeBreaks : ProgramTree → Place → Bool → Option Formula → Rule → Type 0
SomeBreaks p at inputs None r = ⊥
SomeBreaks p at inputs (Some e) r = BreaksValue p at inputs e r

-- what is followed may reach no input, and a guard may
abbrev pub BreaksNames : ProgramTree → Use → Rule → Type 0
BreaksNames p u r = SomeBreaks p u.place false (followed u.mode.effect) r ⊎ SomeBreaks p u.place true u.mode.guard r

-- the rule of names is broken, and none of a lower number
pub record IsLeastOfNames (p : ProgramTree) (u : Use) (r : Rule) : Type 0 where
  pub broken : BreaksNames p u r
  pub lowest : (other : Rule) → number_of other < number_of r → BreaksNames p u other → ⊥

-- no rule of names is broken
abbrev pub KeepsNames : ProgramTree → Use → Type 0
KeepsNames p u = (r : Rule) → BreaksNames p u r → ⊥

-- the flat form of an expression, where there is one
abbrev pub IsForm : ProgramTree → FlatModel → Place → Option Formula → Option (Tree FlatLeaf) → Type 0
IsForm p m at None flat = flat ≡ None
IsForm p m at (Some e) None = ⊥
IsForm p m at (Some e) (Some flat) = IsResolvedAt p m at e flat

-- the flat forms of what is followed and of the guard
pub record Forms (p : ProgramTree) (m : FlatModel) (u : Use) : Type 0 where
  pub follows_as : Option (Tree FlatLeaf)
  pub guard_as : Option (Tree FlatLeaf)
  pub is_followed : IsForm p m u.place (followed u.mode.effect) follows_as
  pub is_guard : IsForm p m u.place u.mode.guard guard_as

-- the rules of kinds that a flat form breaks; it may be no set
abbrev pub broken_by : FlatModel → Option (Tree FlatLeaf) → List KindRule
broken_by m None = []
broken_by m (Some flat) = (judged_in m false flat).broken

-- what is followed has the class of the variable
abbrev pub class_of_followed : FlatModel → DeclaredTree → Option (Tree FlatLeaf) → List KindRule
class_of_followed m type None = []
class_of_followed m type (Some flat) = unless_class (judged_declared type).kind.class mismatch (judged_in m false flat).kind

-- a guard is a truth value
abbrev pub class_of_guard : FlatModel → Option (Tree FlatLeaf) → List KindRule
class_of_guard m None = []
class_of_guard m (Some flat) = unless_class truth_class not_boolean (judged_in m false flat).kind

-- the rule, or else the other
abbrev pub or_else : Option KindRule → Option KindRule → Option KindRule
or_else (Some r) other = Some r
or_else None other = other

-- The rule of kinds for which a mode is refused where these are its flat forms: the least that they break, and else the
-- least of the two demands on their classes.
abbrev pub kind_rule : FlatModel → DeclaredTree → Option (Tree FlatLeaf) → Option (Tree FlatLeaf) → Option KindRule
kind_rule m type follows_as guard_as =
    or_else (least (broken_by m follows_as ++ broken_by m guard_as)) (least (class_of_followed m type follows_as
    ++ class_of_guard m guard_as))

-- the mode breaks no rule at the instance
pub record KeepsUse (p : ProgramTree) (m : FlatModel) (u : Use) : Type 0 where
  pub names : KeepsNames p u
  pub forms : Forms p m u
  pub kinds : kind_rule m u.type forms.follows_as forms.guard_as ≡ None

-- no mode breaks a rule at any instance
abbrev pub AllUsesKept : ProgramTree → FlatModel → InstructionTree → Type 0
AllUsesKept p m i = Each (KeepsUse p m) (uses p i)

-- a rule of names, or one of kinds
pub data UseRule : Type 0 where
  of_names : Rule → UseRule
  of_kinds : KindRule → UseRule

-- the rule for which a mode is refused at an instance: those of names come before those of kinds
pub data IsBrokenAt (p : ProgramTree) (m : FlatModel) (u : Use) : UseRule → Type 0 where
  by_names : (r : Rule) → IsLeastOfNames p u r → IsBrokenAt p m u (of_names r)
  by_kinds : (r : KindRule) → KeepsNames p u → (f : Forms p m u) → kind_rule m u.type f.follows_as f.guard_as ≡ Some r →
      IsBrokenAt p m u (of_kinds r)

-- the rule is broken at one of these, of this item, and none before it breaks one
pub record IsFirstAmong (p : ProgramTree) (m : FlatModel) (among : List Use) (rule : UseRule) (item : ℕ) : Type 0 where
  pub before : List Use
  pub here : Use
  pub after : List Use
  pub in_order : among ≡ before ++ here ∷ after
  pub kept_before : Each (KeepsUse p m) before
  pub broken : IsBrokenAt p m here rule
  pub at_item : item ≡ here.item

-- the rule is broken at the item of a mode at an instance, and none at a mode before it, by instances and then items
abbrev pub IsFirstUse : ProgramTree → FlatModel → InstructionTree → UseRule → ℕ → Type 0
IsFirstUse p m i rule item = IsFirstAmong p m (uses p i) rule item
