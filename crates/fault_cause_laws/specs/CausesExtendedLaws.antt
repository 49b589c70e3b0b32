-- The laws of caused traces over extended traces.
use Rattle.std.specs.Prelude.{◌≡◌, ◌↔◌, ℕ, List, None, length, map}
use Rattle.smv_language.specs.Language.{Tree, Formula, ProgramTree, Each, FlatLeaf, FlatModel}
use Rattle.smv_flat_laws.specs.History.{Mode}
use Rattle.smv_flat_laws.specs.NameResolution.{leaves_in}
use Rattle.fault_instructions.specs.Instructions.{InstructionTree}
use Rattle.fault_weave.specs.ExtensionTraces.{Moment, IsExtended}
use Rattle.fault_weave.specs.Faults.{Fault}
use Rattle.fault_cause_laws.specs.Additions.{IsKnownName}
use Rattle.cut_right_laws.specs.Laws.{AreBoth}
use Rattle.cert_laws.specs.ExtendedTraces.{IsExtensionModel, IsFlatCut, HasFailedFault}
use Rattle.fault_cause_laws.specs.Causes.{CommonCause, IsCauseOf}
use Rattle.fault_cause_laws.specs.Laws.{AreStaged}
use Rattle.fault_cause_laws.specs.CausesRightLaws.{Caused, IsCaused, IsShortCaused, IsRightCaused}
use Rattle.fault_cause_laws.specs.CausedTraces.{CausedTrace, IsCausedExtended, IsShortCausedExtended, HasEvent, IsRightCausedExtended}

-- an extension's model, with causes that strike its faults, meets what the staged model asks, and its top event is an expression of it
abbrev pub ExtensionsAreStaged : Type 0
ExtensionsAreStaged =
    (p : ProgramTree) (i : InstructionTree) (faults : List Fault) (top : Formula) (m : FlatModel) (fs : List Mode)
    (flat_top : Tree FlatLeaf) → IsExtensionModel p i faults top m fs flat_top →
    (cs : List CommonCause) → Each (IsCauseOf (length fs)) cs →
    AreStaged m fs cs × Each (IsKnownName (length m.variables) (length m.symbols)) (leaves_in flat_top)

-- the caused traces in which no cause has a moment are the extended traces, with the faults that they have failed as events
abbrev pub UncausedAreExtended : Type 0
UncausedAreExtended =
    (p : ProgramTree) (i : InstructionTree) (faults : List Fault) (cs : List CommonCause) (trace : List Moment) →
    (IsCausedExtended p i faults cs (trace, map (λ c. None) cs) ↔ IsExtended p i trace)
    × ((n : ℕ) → HasEvent p i faults cs (trace, map (λ c. None) cs) n ↔ HasFailedFault faults trace n)

-- the flat caused trace is cut to the caused trace, with the same moments of causes
abbrev pub IsCausedCut : ProgramTree → InstructionTree → FlatModel → Caused → CausedTrace → Type 0
IsCausedCut p i m flat c = IsFlatCut p i m flat.0 c.0 × (flat.1 ≡ c.1)

-- sets that are right for all flat caused traces are right for all caused traces
abbrev pub AllRightIsCausedExtended : Type 0
AllRightIsCausedExtended =
    (p : ProgramTree) (i : InstructionTree) (faults : List Fault) (top : Formula) (m : FlatModel) (fs : List Mode)
    (flat_top : Tree FlatLeaf) → IsExtensionModel p i faults top m fs flat_top →
    (cs : List CommonCause) → Each (IsCauseOf (length fs)) cs →
    (size : ℕ) (sets : List (List ℕ)) (flats : List Caused) (traces : List CausedTrace) → AreBoth (IsCausedCut p i m) flats traces →
    IsRightCaused m fs cs flat_top size (IsCaused m fs cs) sets flats →
    IsRightCausedExtended p i faults cs top size (IsCausedExtended p i faults cs) sets traces

-- and those that are right for flat ones of at most k steps are right for caused traces of at most k steps
abbrev pub ShortRightIsCausedExtended : Type 0
ShortRightIsCausedExtended =
    (p : ProgramTree) (i : InstructionTree) (faults : List Fault) (top : Formula) (m : FlatModel) (fs : List Mode)
    (flat_top : Tree FlatLeaf) → IsExtensionModel p i faults top m fs flat_top →
    (cs : List CommonCause) → Each (IsCauseOf (length fs)) cs →
    (k size : ℕ) (sets : List (List ℕ)) (flats : List Caused) (traces : List CausedTrace) → AreBoth (IsCausedCut p i m) flats traces →
    IsRightCaused m fs cs flat_top size (IsShortCaused m fs cs k) sets flats →
    IsRightCausedExtended p i faults cs top size (IsShortCausedExtended p i faults cs k) sets traces
