-- What is judged of meanings, names, actuals and items on the way to the first fault of the items.
use Rattle.std.specs.Prelude.{◌≡◌, ◌↔◌, ◌<◌, ℕ, Bool, true, false, ◌||◌, ◌&&◌, List, [], ◌∷◌, ◌++◌, length, map, Option, Some, None, IfSome}
use Rattle.std.specs.Prelude.{slice_get, if◌then◌else◌}
use Rattle.std.specs.Borrow.{Bor}
use Rattle.smv_language.specs.Language.{Text, Path, Formula, DeclaredTree, boolean, range, members, instance, ModuleTree, ProgramTree}
use Rattle.smv_language.specs.Language.{Place, an_instance, find_module, kind_at, module_at, plain_name, Each, AtSome, tree_of}
use Rattle.smv_language.specs.Language.{FlatInstance}
use Rattle.smv_language.specs.declared.expr.Expr.{Expr}
use Rattle.smv_flat_laws.specs.Items.{Item, NumberedItem, items_named, instances_of}
use Rattle.smv_flat_laws.specs.NameResolution.{has_next}
use Rattle.smv_flat_laws.specs.Rules as rules
use Rattle.smv_flat_laws.specs.Rules.{ActualHasNoMeaning, ActualLoops, SomeActualLoops, some_has_next, has_twice, HasNoValue, GivesInput}
use Rattle.smv_flat_laws.specs.Rules.{Site, item_of, a_use, number_of, Breaks, IsKept}
use Rattle.smv_scope.specs.Faults.{rule_of}
use Rattle.smv_scope.specs.declared.fault.FlatFault.{FlatFault}
use Rattle.smv_scope.specs.declared.fault.FlatRule.{FlatRule}
use Rattle.smv_flat.specs.declared.values.JudgedValue.{JudgedValue}
use Rattle.smv_flat.specs.declared.values.JudgedActual.{JudgedActual}
use Rattle.smv_language.specs.declared.model.Role.TheVariants.{State, Input, Frozen}
use Rattle.smv_scope.specs.declared.names.Formal.{Formal}
use Rattle.smv_scope.specs.declared.names.Formal.TheVariants as known
use Rattle.smv_scope.specs.declared.needs.Needs.{Needs}
use Rattle.smv_scope.specs.declared.walk.Meaning.{Meaning as Found}
use Rattle.smv_scope.specs.declared.walk.Meaning.TheVariants as found
use Rattle.smv_scope.specs.Links.{is_marked}

-- a name with this meaning has no value
abbrev pub is_without_value : Found → Bool
is_without_value found.Nothing = true
is_without_value (found.Instance k) = true
is_without_value found.Loop = false
is_without_value (found.Variable k role) = false
is_without_value (found.Definition k) = false
is_without_value (found.Symbol k) = false

-- the meaning is an input, or a definition that reads one
abbrev pub is_input_found : Needs → Found → Bool
is_input_found n (found.Variable k Input) = true
is_input_found n (found.Variable k State) = false
is_input_found n (found.Variable k Frozen) = false
is_input_found n (found.Definition k) = is_marked n.reads_input.items k
is_input_found n found.Nothing = false
is_input_found n found.Loop = false
is_input_found n (found.Instance k) = false
is_input_found n (found.Symbol k) = false

-- the meaning is a definition that is needed by itself
abbrev pub is_circle_found : Needs → Found → Bool
is_circle_found n (found.Definition k) = is_marked n.on_circle.items k
is_circle_found n (found.Variable k role) = false
is_circle_found n found.Nothing = false
is_circle_found n found.Loop = false
is_circle_found n (found.Instance k) = false
is_circle_found n (found.Symbol k) = false

-- the names, without their flags
abbrev pub names_in : {L : Type 0} → List (L × Bool) → List L
names_in us = map (λ u. u.0) us

-- the names of those that are flagged
abbrev pub names_under : {L : Type 0} → List (L × Bool) → List L
names_under [] = []
names_under (u ∷ us) = if u.1 then u.0 ∷ names_under us else names_under us

-- a value judged by a name more: whether it has no value, and whether it gives an input, under `next` or not
abbrev pub with_flags : JudgedValue → Bool → Bool → Bool → JudgedValue
with_flags j no_value input under =
    record {
      no_value = j.no_value || no_value;
      next = j.next;
      nested_next = j.nested_next;
      input = j.input || input;
      next_input = j.next_input || (input && under);
    }

-- what is judged of some names of a value
pub record AreNoted (p : ProgramTree) (at : Place) (us : List (Path × Bool)) (j : JudgedValue) : Type 0 where
  pub no_value : (j.no_value ≡ true) ↔ AtSome (HasNoValue p at) (names_in us)
  pub input : (j.input ≡ true) ↔ AtSome (GivesInput p at) (names_in us)
  pub next_input : (j.next_input ≡ true) ↔ AtSome (GivesInput p at) (names_under us)

-- the same at the instance of a number, with where the value has `next`
pub record AreJudged (p : ProgramTree) (spot : ℕ) (us : List (Path × Bool)) (next nested : Bool) (j : JudgedValue) : Type 0 where
  pub names : (at : FlatInstance) → slice_get (instances_of p) spot ≡ Some at → AreNoted p at.place us j
  pub has_next : j.next ≡ next
  pub has_nested : j.nested_next ≡ nested

-- the rule broken at a site with the lowest number
pub record IsLowestAt (p : ProgramTree) (site : Site) (rule : rules.Rule) : Type 0 where
  pub broken : Breaks p rule site
  pub lowest : (other : rules.Rule) → number_of other < number_of rule → Breaks p other site → ⊥

-- want of memory says nothing
abbrev pub IsToldRule : ProgramTree → Site → Option rules.Rule → Type 0
IsToldRule p site None = Unit {0}
IsToldRule p site (Some rule) = IsLowestAt p site rule

-- what is told of a site is right: no rule is broken, or this one and none lower
abbrev pub IsTold : ProgramTree → Site → Option FlatRule → Type 0
IsTold p site None = IsKept p site
IsTold p site (Some r) = IsToldRule p site (rule_of r)

-- what is told of an item, wherever it stands in the module of an instance
abbrev pub IsToldOf : ProgramTree → ℕ → Item → Option FlatRule → Type 0
IsToldOf p spot item o =
    (at : FlatInstance) → slice_get (instances_of p) spot ≡ Some at → (i : NumberedItem) → i.item ≡ item → IsTold p (a_use at i) o

-- what is known of a formal says that it means nothing, or that it comes back to itself
abbrev pub is_nothing_known : Formal → Bool
is_nothing_known (known.Means found.Nothing) = true
is_nothing_known (known.Means found.Loop) = false
is_nothing_known (known.Means (found.Instance k)) = false
is_nothing_known (known.Means (found.Variable k role)) = false
is_nothing_known (known.Means (found.Definition k)) = false
is_nothing_known (known.Means (found.Symbol k)) = false
is_nothing_known known.Circle = false
is_nothing_known known.Begun = false
is_nothing_known known.Unknown = false

-- a formal that comes back to itself
abbrev pub is_circle_known : Formal → Bool
is_circle_known known.Circle = true
is_circle_known (known.Means f) = false
is_circle_known known.Begun = false
is_circle_known known.Unknown = false

-- a formal means a definition that is needed by itself
abbrev pub is_circle_meant : Needs → Formal → Bool
is_circle_meant n (known.Means f) = is_circle_found n f
is_circle_meant n known.Circle = false
is_circle_meant n known.Begun = false
is_circle_meant n known.Unknown = false

-- An instance that is declared in another one, with its module and what it is handed: as many actuals as formals, no
-- two of one name.
pub record IsHanded (p : ProgramTree) (spot inner : ℕ) (m : ModuleTree) (at inside : FlatInstance) (own : Text)
    (actuals : List Formula) : Type 0 where
  pub at_is : slice_get (instances_of p) spot ≡ Some at
  pub inside_is : slice_get (instances_of p) inner ≡ Some inside
  pub place : inside.place ≡ own ∷ at.place
  pub kind : kind_at (module_at p at.place) own ≡ an_instance inside.module_name actuals
  pub named : find_module p inside.module_name ≡ Some m
  pub count : length actuals ≡ length m.formals
  pub apart : has_twice m.formals ≡ false

-- the formal of a number is on a loop
abbrev pub LoopsAt : ProgramTree → Place → ModuleTree → ℕ → Formula → Type 0
LoopsAt p inside m index e = (formal : Text) × (slice_get m.formals index ≡ Some formal) × ActualLoops p inside index formal (plain_name e)

-- what is judged of the actual of a number
pub record IsActualJudged (p : ProgramTree) (at inside : Place) (m : ModuleTree) (index : ℕ) (e : Formula) (j : JudgedActual) : Type 0 where
  pub no_value : (j.no_value ≡ true) ↔ ActualHasNoMeaning p at e (plain_name e)
  pub circle : (j.circle ≡ true) ↔ LoopsAt p inside m index e
  pub next : j.next ≡ has_next e

-- what is judged of some actuals
pub record AreActualsJudged (p : ProgramTree) (at inside : Place) (m : ModuleTree) (actuals : List Formula) (j : JudgedActual) : Type 0
  where
    pub no_value : (j.no_value ≡ true) ↔ AtSome (λ e. ActualHasNoMeaning p at e (plain_name e)) actuals
    pub circle : (j.circle ≡ true) ↔ SomeActualLoops p inside m actuals
    pub next : j.next ≡ some_has_next actuals

-- what is wrong with one or with the other
abbrev pub joined_actual : JudgedActual → JudgedActual → JudgedActual
joined_actual a b = record { no_value = a.no_value || b.no_value; circle = a.circle || b.circle; next = a.next || b.next }

-- what is judged of the actual of a number, wherever the instance stands
abbrev pub JudgesActual : ProgramTree → ℕ → ℕ → ℕ → Formula → JudgedActual → Type 0
JudgesActual p spot inner index e j =
    (m : ModuleTree) (at inside : FlatInstance) (own : Text) (actuals : List Formula) → IsHanded p spot inner m at inside own actuals →
    slice_get actuals index ≡ Some e → IsActualJudged p at.place inside.place m index e j

-- what is judged of some of the actuals that an instance is handed
abbrev pub JudgesActuals : ProgramTree → ℕ → ℕ → List Formula → List Formula → JudgedActual → Type 0
JudgesActuals p spot inner actuals some j =
    (m : ModuleTree) (at inside : FlatInstance) (own : Text) → IsHanded p spot inner m at inside own actuals →
    AreActualsJudged p at.place inside.place m some j

-- what is told of the item at a place of an instance, if it is this one
abbrev pub IsToldHere : ProgramTree → ℕ → ℕ → Item → Option FlatRule → Type 0
IsToldHere p spot place item o =
    (at : FlatInstance) → slice_get (instances_of p) spot ≡ Some at → (i : NumberedItem) →
    slice_get (items_named p at.module_name) place ≡ Some i →
    i.item ≡ item → IsTold p (a_use at i) o

-- the actuals of the declaration of an instance; a variable has none
abbrev pub AreActuals : DeclaredTree → Option (Bor (List (Expr Path))) → Type 0
AreActuals (instance m actuals) (Some xs) = actuals ≡ map tree_of xs.now
AreActuals (instance m actuals) None = ⊥
AreActuals boolean None = Unit {0}
AreActuals (range lo hi) None = Unit {0}
AreActuals (members ms) None = Unit {0}
AreActuals boolean (Some xs) = ⊥
AreActuals (range lo hi) (Some xs) = ⊥
AreActuals (members ms) (Some xs) = ⊥

-- the number of an instance that is meant
abbrev pub instance_in : Found → Option ℕ
instance_in (found.Instance k) = Some k
instance_in (found.Variable k role) = None
instance_in (found.Definition k) = None
instance_in (found.Symbol k) = None
instance_in found.Nothing = None
instance_in found.Loop = None

-- The rule is broken at one of the sites with this item, none at those before it, and none of a lower number at it.
pub record IsFirstAt (p : ProgramTree) (ss : List Site) (item : ℕ) (rule : rules.Rule) : Type 0 where
  pub before : List Site
  pub site : Site
  pub after : List Site
  pub in_order : ss ≡ before ++ site ∷ after
  pub kept_before : Each (IsKept p) before
  pub least : IsLowestAt p site rule
  pub at_item : item ≡ item_of site

-- what is told of some sites is right: no rule is broken, or this is the first fault
abbrev pub AreTold : ProgramTree → List Site → Option FlatFault → Type 0
AreTold p ss None = Each (IsKept p) ss
AreTold p ss (Some f) = IfSome (rule_of f.rule) (IsFirstAt p ss f.item)

-- what is told of the items of an instance
abbrev pub IsInstanceTold : ProgramTree → ℕ → Option FlatFault → Type 0
IsInstanceTold p spot o = (at : FlatInstance) → slice_get (instances_of p) spot ≡ Some at →
    AreTold p (map (a_use at) (items_named p at.module_name)) o
