-- At which moments the assignments so far speak of a variable, and whether one more may be there.
use Rattle.std.specs.Prelude.{◌≡◌, ℕ, Bool, true, false, ◌||◌, ◌&&◌, List, [], ◌∷◌, ◌++◌, Option, Some, None, slice_get, if◌then◌else◌}
use Rattle.std.specs.Borrow.{Bor}
use Rattle.smv_language.specs.declared.program.Moment.{Moment}
use Rattle.smv_language.specs.declared.program.Moment.TheVariants.{Always, First, After}
use Rattle.smv_language.specs.Language.{Text, Path, ProgramTree, same_text, FlatInstance}
use Rattle.smv_flat_laws.specs.Items.{Item, NumberedItem, items_named, instances_of, a_declaration, a_definition, an_assignment}
use Rattle.smv_flat_laws.specs.Items.{some_constants, an_init, an_invar, a_trans}
use Rattle.smv_flat_laws.specs.Rules.{Site, item_of, a_use, is_later}
use Rattle.smv_scope.specs.Faults.{first_of}
use Rattle.smv_scope.specs.TableLookUps.{local_at, own_at}
use Rattle.smv_flat.specs.Verdicts.{IsTold}
use Rattle.smv_scope.specs.declared.fault.FlatFault.{FlatFault}
use Rattle.smv_scope.specs.declared.fault.FlatRule.{FlatRule}
use Rattle.smv_scope.specs.declared.fault.FlatRule.TheVariants.{NoSuchName, DoubleAssign, NextHere, InputHere}
use Rattle.smv_flat.specs.declared.values.JudgedValue.{JudgedValue}
use Rattle.smv_flat.specs.declared.judge.Times.{Times}
use Rattle.smv_language.specs.declared.model.Role.TheVariants.{State, Input, Frozen}
use Rattle.smv_scope.specs.declared.modules.Local.{Local}
use Rattle.smv_scope.specs.declared.modules.Local.TheVariants as local
use Rattle.smv_scope.specs.declared.names.Scene.{Scene}
use Rattle.smv_scope.specs.declared.walk.Meaning.{Meaning as Found}
use Rattle.smv_scope.specs.declared.walk.Meaning.TheVariants as found

-- what an own name of an instance means there; a formal is nothing of its own
abbrev pub meant_by : Scene → ℕ → Option Local → Found
meant_by s spot (Some (local.Item place)) = own_at s spot place
meant_by s spot (Some (local.Formal i)) = found.Nothing
meant_by s spot None = found.Nothing

-- what an instance's own name means there
abbrev pub local_meant : Scene → ℕ → Text → Found
local_meant s spot x = meant_by s spot (local_at s spot x)

-- a variable of the state may be assigned, a frozen one at the first moment
abbrev pub may_assign : Found → Moment → Bool
may_assign (found.Variable k State) when = true
may_assign (found.Variable k Frozen) First = true
may_assign (found.Variable k Frozen) Always = false
may_assign (found.Variable k Frozen) After = false
may_assign (found.Variable k Input) when = false
may_assign (found.Instance k) when = false
may_assign (found.Definition k) when = false
may_assign (found.Symbol k) when = false
may_assign found.Nothing when = false
may_assign found.Loop when = false

-- an assignment of each moment
abbrev pub is_always : Moment → Bool
is_always Always = true
is_always First = false
is_always After = false

-- an assignment of the first moment
abbrev pub is_first : Moment → Bool
is_first First = true
is_first Always = false
is_first After = false

-- no assignment speaks of the target
abbrev pub no_times : Times
no_times = record { always = false; first = false; after = false }

-- with one moment more
abbrev pub with_moment : Times → Moment → Times
with_moment t Always = record { always = true; first = t.first; after = t.after }
with_moment t First = record { always = t.always; first = true; after = t.after }
with_moment t After = record { always = t.always; first = t.first; after = true }

-- an assignment of the moment speaks of the same time as one of those
abbrev pub is_met : Times → Moment → Bool
is_met t Always = t.always || (t.first || t.after)
is_met t First = t.always || t.first
is_met t After = t.always || t.after

-- the path is this name alone
abbrev pub is_only : Path → Text → Bool
is_only [] x = false
is_only (y ∷ []) x = same_text y x
is_only (y ∷ (z ∷ rest)) x = false

-- the item assigns the variable, at a moment that passes the test
abbrev pub assigns_at : (Moment → Bool) → Text → Item → Bool
assigns_at test x (an_assignment a) = is_only a.target x && test a.when
assigns_at test x (a_declaration role d) = false
assigns_at test x (a_definition d) = false
assigns_at test x (some_constants xs) = false
assigns_at test x (an_init e) = false
assigns_at test x (an_invar e) = false
assigns_at test x (a_trans e) = false

-- one of the items assigns the variable, at a moment that passes the test
abbrev pub some_assigns : (Moment → Bool) → Text → List Item → Bool
some_assigns test x [] = false
some_assigns test x (i ∷ is) = assigns_at test x i || some_assigns test x is

-- at which moments the items assign the variable
abbrev pub times_in : List Item → Text → Times
times_in is x = record { always = some_assigns is_always x is; first = some_assigns is_first x is; after = some_assigns is_later x is }

-- the times of a variable in a table
abbrev pub times_of : List (Bor (List ℕ) × Times) → Text → Times
times_of [] x = no_times
times_of (e ∷ es) x = if same_text e.0.now x then e.1 else times_of es x

-- the table has the times of all variables that the items assign
abbrev pub AreTimes : List (Bor (List ℕ) × Times) → List Item → Type 0
AreTimes es is = (x : Text) → times_of es x ≡ times_in is x

-- the rule that the value of an assignment breaks, by the moment of which it speaks
abbrev pub value_rule : Moment → JudgedValue → Option FlatRule
value_rule Always j = first_of ((j.no_value, NoSuchName) ∷ (j.next, NextHere) ∷ (j.input, InputHere) ∷ [])
value_rule First j = first_of ((j.no_value, NoSuchName) ∷ (j.next, NextHere) ∷ (j.input, InputHere) ∷ [])
value_rule After j = first_of ((j.no_value, NoSuchName) ∷ (j.nested_next, NextHere) ∷ (j.next_input, InputHere) ∷ [])

-- the rule that an assignment with a lawful target and lawful names breaks
abbrev pub assignment_rule : Bool → Moment → JudgedValue → Option FlatRule
assignment_rule met when j = if met then Some DoubleAssign else value_rule when j

-- whether a path is one name that may be assigned at the moment; where it is, which
abbrev pub IsTargetTold : Scene → ℕ → Path → Moment → Option (Bor Text) → Type 0
IsTargetTold s spot target when None = (x : Text) → target ≡ x ∷ [] → may_assign (local_meant s spot x) when ≡ false
IsTargetTold s spot target when (Some x) = (target ≡ x.now ∷ []) × (may_assign (local_meant s spot x.now) when ≡ true)

-- what is told of the item at a place of an instance, after those that the table has, and the table with it
pub record IsItemTold (p : ProgramTree) (spot place : ℕ) (old new : List (Bor (List ℕ)
    × Times)) (item : Item) (o : Option FlatRule) : Type 0 where
  pub told : (at : FlatInstance) → slice_get (instances_of p) spot ≡ Some at → (i : NumberedItem) →
      slice_get (items_named p at.module_name) place ≡ Some i →
      i.item ≡ item → AreTimes old i.before → IsTold p (a_use at i) o
  pub times : o ≡ None → (before : List Item) → AreTimes old before → AreTimes new (before ++ item ∷ [])

-- the same with the item's number, where a rule is broken
abbrev pub IsFaultAt : ProgramTree → Site → Option FlatFault → Type 0
IsFaultAt p site None = IsTold p site None
IsFaultAt p site (Some f) = IsTold p site (Some f.rule) × (f.item ≡ item_of site)

-- the fault of the item at a place; and where there is none, the times then are those up to it
pub record IsPlaceTold (p : ProgramTree) (spot place : ℕ) (old new : List (Bor (List ℕ) × Times)) (o : Option FlatFault) : Type 0 where
  pub told : (at : FlatInstance) → slice_get (instances_of p) spot ≡ Some at → (i : NumberedItem) →
      slice_get (items_named p at.module_name) place ≡ Some i →
      AreTimes old i.before → IsFaultAt p (a_use at i) o
  pub times : (at : FlatInstance) → slice_get (instances_of p) spot ≡ Some at → (i : NumberedItem) →
      slice_get (items_named p at.module_name) place ≡ Some i →
      o ≡ None → (before : List Item) → AreTimes old before → AreTimes new (before ++ i.item ∷ [])
