-- What a woven program means: its traces are the extended traces, and its faultless ones those of the program.
use Rattle.std.specs.Prelude.{◌≡◌, ◌↔◌, List, Some, None, Contains}
use Rattle.smv_language.specs.Language.{Text, DeclaredTree, ModuleTree, ProgramTree, symbol, Place, Role, Valuation, IsInstance, IsVariable}
use Rattle.smv_language.specs.Language.{IsTrace, Each, AtSome, EachBoth}
use Rattle.fault_instructions.specs.Instructions.{InstructionTree, SliceTree, slices_of}
use Rattle.fault_instructions.specs.AddedNames.{ModeState, own_name, mode_variable, mode_symbol}
use Rattle.fault_weave.specs.ExtensionTraces.{Moment, IsExtended}

module _ (p : ProgramTree) (i : InstructionTree) where
  -- a slice of the module of an instance
  abbrev pub IsSlice : Place → SliceTree → Type 0
  IsSlice at s = (m : ModuleTree) × IsInstance p at m × Contains (slices_of i m.name) s

  -- nominal, or in one of the slice's modes
  abbrev pub IsStateOf : SliceTree → ModeState → Type 0
  IsStateOf s None = Unit {0}
  IsStateOf s (Some name) = AtSome (λ m. m.name ≡ name) s.modes

  -- a valuation of the woven program, as a moment: x gives the read value, x#nominal the own value of an
  -- affected variable, and S#mode the mode
  pub record IsCutMoment (v : Valuation) (mo : Moment) : Type 0 where
    pub read : (at : Place) (x : Text) (role : Role) (type : DeclaredTree) → IsVariable p at x role type → v at x ≡ mo.read at x
    pub own : (at : Place) (s : SliceTree) → IsSlice at s → v at (own_name s.target) ≡ mo.own at s.target
    pub known : (at : Place) (s : SliceTree) → IsSlice at s → IsStateOf s (mo.mode at s.name)
    pub mode : (at : Place) (s : SliceTree) → IsSlice at s → v at (mode_variable s.name) ≡ symbol (mode_symbol s.name (mo.mode at s.name))

  -- each moment is cut from the valuation at its place
  abbrev pub IsCut : List Valuation → List Moment → Type 0
  IsCut vs trace = EachBoth IsCutMoment vs trace

  -- no fault's mode stands at any moment
  abbrev pub IsFaultless : List Moment → Type 0
  IsFaultless trace = Each (λ (mo : Moment). (at : Place) (s : SliceTree) → IsSlice at s → mo.mode at s.name ≡ None) trace

  -- the read values alone
  abbrev pub IsHidden : List Moment → List Valuation → Type 0
  IsHidden trace vs =
      EachBoth (λ (mo : Moment) (v : Valuation). (at : Place) (x : Text) (role : Role) (type : DeclaredTree) →
      IsVariable p at x role type → v at x ≡ mo.read at x) trace vs

  -- the program means the extension of the other by the instructions
  pub record IsExtensionOf (w : ProgramTree) : Type 0 where
    -- a list of valuations is a trace of the woven program exactly where what it is cut to is an extended trace
    pub traces : (vs : List Valuation) (trace : List Moment) → IsCut vs trace → (IsTrace w vs ↔ IsExtended p i trace)
    -- each trace can be cut, and each extended trace is the cut of a list of valuations
    pub cut : (vs : List Valuation) → IsTrace w vs → (trace : List Moment) × IsCut vs trace
    pub whole : (trace : List Moment) → IsExtended p i trace → (vs : List Valuation) × IsCut vs trace
    -- the faultless ones, hidden, are exactly the traces of the program
    pub nominal : (vs : List Valuation) →
        (IsTrace p vs ↔ ((trace : List Moment) × IsExtended p i trace × IsFaultless trace × IsHidden trace vs))

  -- the moments say the same of the program's variables, the affected ones and the slices
  pub record SameMoment (mo mo' : Moment) : Type 0 where
    pub same_read : (at : Place) (x : Text) (role : Role) (type : DeclaredTree) → IsVariable p at x role type → mo.read at x ≡ mo'.read at x
    pub same_own : (at : Place) (s : SliceTree) → IsSlice at s → mo.own at s.target ≡ mo'.own at s.target
    pub same_mode : (at : Place) (s : SliceTree) → IsSlice at s → mo.mode at s.name ≡ mo'.mode at s.name

  -- the valuations agree on the variables of a program
  abbrev pub SameValuation : ProgramTree → Valuation → Valuation → Type 0
  SameValuation w v v' = (at : Place) (x : Text) (role : Role) (type : DeclaredTree) → IsVariable w at x role type → v at x ≡ v' at x

  -- each slice is nominal or in one of its modes
  abbrev pub HasModes : Moment → Type 0
  HasModes mo = (at : Place) (s : SliceTree) → IsSlice at s → IsStateOf s (mo.mode at s.name)

  -- the cut of lists of valuations of a program is one to one, and every list of moments is the cut of one list
  pub record IsOneToOne (w : ProgramTree) : Type 0 where
    pub one_trace : (vs : List Valuation) (trace trace' : List Moment) → IsCut vs trace → IsCut vs trace' → EachBoth SameMoment trace trace'
    pub one_list : (vs vs' : List Valuation) (trace : List Moment) → IsCut vs trace → IsCut vs' trace → EachBoth (SameValuation w) vs vs'
    pub every_list : (trace : List Moment) → Each HasModes trace → (vs : List Valuation) × IsCut vs trace
