-- The extended traces of a program under instructions: over its own text, with read and own values.
use Rattle.std.specs.Prelude.{◌≡◌, Bool, true, List, [], ◌∷◌, Some, None, if◌then◌else◌}
use Rattle.smv_language.specs.declared.program.Moment.{Moment as When}
use Rattle.smv_language.specs.declared.program.Moment.TheVariants.{Always, First, After}
use Rattle.smv_language.specs.Language.{Text, Path, Formula, DeclaredTree, boolean, DeclTree, SectionTree, var, ivar, frozen, assign, init}
use Rattle.smv_language.specs.Language.{invar, trans, ModuleTree, ProgramTree, Value, one, opposite, same_text, Place, Kind, a_variable}
use Rattle.smv_language.specs.Language.{kind_in, Valuation, Reading, reading, MayRead, May, IsInstance, Declares, Keeps, Each, EachPair}
use Rattle.smv_language.specs.Language.{AtSome, AtFirst, AtLast}
use Rattle.smv_language.specs.Values.{truth}
use Rattle.fault_instructions.specs.Instructions.{InstructionTree, SliceTree, slices_of, is_affected}
use Rattle.fault_instructions.specs.Effects.{Allows}
use Rattle.fault_instructions.specs.AddedNames.{ModeState}
use Rattle.fault_weave.specs.Moves.{Starts, Moves}
use Rattle.fault_weave.specs.Faults.{Fault}

-- a read value of each variable, an own value of each affected one, and the mode of each slice instance
pub record Moment : Type 0 where
  pub read : Valuation
  pub own : Valuation
  pub mode : Place → Text → ModeState

-- names are read as before, but the affected variables written as single names have their own values
abbrev pub with_own : (Text → Bool) → (Text → Value) → Reading → Reading
with_own affected own base n [] = base n []
with_own affected own base n (x ∷ []) = if affected x then Some (one (own x)) else base n (x ∷ [])
with_own affected own base n (x ∷ y ∷ name) = base n (x ∷ y ∷ name)

-- in a module's instance: the names under the own values of a moment, and the value of an assignment's target
abbrev pub own_reading : InstructionTree → ModuleTree → Place → Moment → Reading → Reading
own_reading i m at mo base = with_own (is_affected i m.name) (mo.own at) base

-- the value of an assignment's target: the own value, where a slice affects the variable
abbrev pub target_value : InstructionTree → ModuleTree → Place → Moment → Text → Value
target_value i m at mo x = if is_affected i m.name x then mo.own at x else mo.read at x

module _ (p : ProgramTree) (i : InstructionTree) (at : Place) (m : ModuleTree) where
  -- what an assignment asks of the first moment
  abbrev pub FirstAssigned : Moment → When → Path → Formula → Type 0
  FirstAssigned mo First (x ∷ []) e = May p at mo.read mo.read e (target_value i m at mo x)
  FirstAssigned mo _ target e = Unit {0}

  -- what a section asks of the first moment: an INIT says what the own values are
  abbrev pub FirstSection : Moment → SectionTree → Type 0
  FirstSection mo (init e) =
      MayRead (own_reading i m at mo (reading p at mo.read mo.read)) (reading p at mo.read mo.read) e (truth true)
  FirstSection mo (assign list) = Each (λ a. FirstAssigned mo a.when a.target a.value) list
  FirstSection mo _ = Unit {0}

  -- the read value of a declared variable, and its own where a slice affects it, are of its type
  abbrev pub BothDeclared : Moment → DeclTree → Type 0
  BothDeclared mo d = Declares mo.read at d.name d.what × (is_affected i m.name d.name ≡ true → Declares mo.own at d.name d.what)

  -- what a section asks of each moment by its declared types
  abbrev pub DomainSection : Moment → SectionTree → Type 0
  DomainSection mo (var ds) = Each (BothDeclared mo) ds
  DomainSection mo (ivar ds) = Each (BothDeclared mo) ds
  DomainSection mo (frozen ds) = Each (BothDeclared mo) ds
  DomainSection mo _ = Unit {0}

  -- what an assignment asks of each moment
  abbrev pub EachAssigned : Moment → When → Path → Formula → Type 0
  EachAssigned mo Always (x ∷ []) e = May p at mo.read mo.read e (target_value i m at mo x)
  EachAssigned mo _ target e = Unit {0}

  -- what a section asks of each moment
  abbrev pub EachSection : Moment → SectionTree → Type 0
  EachSection mo (invar e) = May p at mo.read mo.read e (truth true)
  EachSection mo (assign list) = Each (λ a. EachAssigned mo a.when a.target a.value) list
  EachSection mo _ = Unit {0}

  -- what an assignment asks of a moment and the next
  abbrev pub NextAssigned : Moment → Moment → When → Path → Formula → Type 0
  NextAssigned mo mo' After (x ∷ []) e = May p at mo.read mo'.read e (target_value i m at mo' x)
  NextAssigned mo mo' _ target e = Unit {0}

  -- what a section asks of a moment and the next: a TRANS says under `next` what the own values are
  abbrev pub StepSection : Moment → Moment → SectionTree → Type 0
  StepSection mo mo' (trans e) =
      MayRead (reading p at mo.read mo'.read) (own_reading i m at mo' (reading p at mo'.read mo'.read)) e (truth true)
  StepSection mo mo' (assign list) = Each (λ a. NextAssigned mo mo' a.when a.target a.value) list
  StepSection mo mo' (frozen ds) = Each (λ d. Keeps mo.read mo'.read at d.name d.what) ds
  StepSection mo mo' _ = Unit {0}

  -- the declared type of a variable
  abbrev pub type_of : Kind → DeclaredTree
  type_of (a_variable role type) = type
  type_of _ = boolean

  -- what a slice asks of each moment: where it is nominal the read value is the own one
  abbrev pub EachSlice : Moment → SliceTree → Type 0
  EachSlice mo s = mo.mode at s.name ≡ None → mo.read at s.target ≡ mo.own at s.target

  -- a mode is entered where it did not stand before
  abbrev pub entered : ModeState → Text → Bool
  entered None name = true
  entered (Some m') name = opposite (same_text m' name)

  -- the effect of the mode that stands allows the read value, from the value before and where the mode is entered
  abbrev pub Effected : Moment → SliceTree → Value → (Text → Bool) → ModeState → Type 0
  Effected mo s before is_entered None = Unit {0}
  Effected mo s before is_entered (Some name) =
      AtSome (λ mode. (mode.name ≡ name)
      × Allows mode.effect (λ e x. May p at mo.read mo.read e x) (type_of (kind_in m s.target)) (mo.own at s.target) before
      (is_entered name) (mo.read at s.target)) s.modes

  -- in the first moment the value before is the own one, and the mode is entered
  abbrev pub FirstSlice : Moment → SliceTree → Type 0
  FirstSlice mo s = Starts s.start s.modes (mo.mode at s.name) × Effected mo s (mo.own at s.target) (λ name. true) (mo.mode at s.name)

  -- what a slice asks of a moment and the next: how its state moves, and what the mode's effect then allows
  abbrev pub StepSlice : Moment → Moment → SliceTree → Type 0
  StepSlice mo mo' s =
      Moves s.modes (λ g. May p at mo.read mo.read g (truth true)) (mo.mode at s.name) (mo'.mode at s.name)
      × Effected mo' s (mo.read at s.target) (entered (mo.mode at s.name)) (mo'.mode at s.name)

-- the same at every instance
module _ (p : ProgramTree) (i : InstructionTree) where
  -- a moment may be the first one
  abbrev pub IsFirst : Moment → Type 0
  IsFirst mo = (at : Place) (m : ModuleTree) → IsInstance p at m →
      Each (FirstSection p i at m mo) m.sections × Each (FirstSlice p i at m mo) (slices_of i m.name)

  -- a moment is one of the extension
  abbrev pub IsMoment : Moment → Type 0
  IsMoment mo = (at : Place) (m : ModuleTree) → IsInstance p at m →
      Each (DomainSection p i at m mo) m.sections × Each (EachSection p i at m mo) m.sections
      × Each (EachSlice p i at m mo) (slices_of i m.name)

  -- a moment may come after another
  abbrev pub IsStep : Moment → Moment → Type 0
  IsStep mo mo' = (at : Place) (m : ModuleTree) → IsInstance p at m →
      Each (StepSection p i at m mo mo') m.sections × Each (StepSlice p i at m mo mo') (slices_of i m.name)

  -- an extended trace: a list of moments that is not empty
  pub record IsExtended (trace : List Moment) : Type 0 where
    pub first : AtFirst IsFirst trace
    pub moments : Each IsMoment trace
    pub steps : EachPair IsStep trace

-- the fault's mode stands at some moment
abbrev pub HasFailed : List Moment → Fault → Type 0
HasFailed trace f = AtSome (λ mo. mo.mode f.place f.slice ≡ Some f.mode) trace

-- the top event is TRUE at the last moment
abbrev pub Reaches : ProgramTree → Formula → List Moment → Type 0
Reaches p top trace = AtLast (λ mo. May p [] mo.read mo.read top (truth true)) trace
