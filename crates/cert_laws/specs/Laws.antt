-- What is right for flat traces of an extension's model is right for extended traces.
use Rattle.std.specs.Prelude.{ℕ, List}
use Rattle.smv_language.specs.Language.{Tree, Formula, ProgramTree, Value, FlatLeaf, FlatModel}
use Rattle.smv_flat_laws.specs.History.{Mode}
use Rattle.smv_flat_laws.specs.FlatTrace.{IsFlatTrace}
use Rattle.fault_instructions.specs.Instructions.{InstructionTree}
use Rattle.fault_weave.specs.ExtensionTraces.{Moment, IsExtended}
use Rattle.fault_weave.specs.Faults.{Fault}
use Rattle.cut_right_laws.specs.Right.{IsWithin}
use Rattle.cut_right_laws.specs.Laws.{AreBoth}
use Rattle.sat_encoding_laws.specs.FlatTraces.{IsRightFlat}
use Rattle.sat_encoding_laws.specs.EncodedLaws.{AreOwn}
use Rattle.cert_laws.specs.ExtendedTraces.{IsExtensionModel, IsFlatCut, IsRightExtended}

-- each flat trace of the model is cut to an extended trace
abbrev pub FlatTracesAreCut : Type 0
FlatTracesAreCut =
    (p : ProgramTree) (i : InstructionTree) (faults : List Fault) (top : Formula) (m : FlatModel) (fs : List Mode)
    (flat_top : Tree FlatLeaf) → IsExtensionModel p i faults top m fs flat_top →
    (flat : List (List Value)) → IsFlatTrace m flat → (trace : List Moment) × IsFlatCut p i m flat trace

-- sets that are right for all flat traces are right for all extended traces, with what their flat traces are cut to
abbrev pub AllRightIsExtended : Type 0
AllRightIsExtended =
    (p : ProgramTree) (i : InstructionTree) (faults : List Fault) (top : Formula) (m : FlatModel) (fs : List Mode)
    (flat_top : Tree FlatLeaf) → IsExtensionModel p i faults top m fs flat_top →
    (size : ℕ) (sets : List (List ℕ)) (flats : List (List (List Value))) (traces : List (List Moment)) →
    AreBoth (IsFlatCut p i m) flats traces →
    IsRightFlat m fs flat_top size (IsFlatTrace m) sets flats → IsRightExtended p i faults top size (IsExtended p i) sets traces

-- and those that are right for flat traces of at most k steps are right for extended traces of at most k steps
abbrev pub ShortRightIsExtended : Type 0
ShortRightIsExtended =
    (p : ProgramTree) (i : InstructionTree) (faults : List Fault) (top : Formula) (m : FlatModel) (fs : List Mode)
    (flat_top : Tree FlatLeaf) → IsExtensionModel p i faults top m fs flat_top →
    (k size : ℕ) (sets : List (List ℕ)) (flats : List (List (List Value))) (traces : List (List Moment)) →
    AreBoth (IsFlatCut p i m) flats traces →
    IsRightFlat m fs flat_top size (IsWithin (IsFlatTrace m) k) sets flats →
    IsRightExtended p i faults top size (IsWithin (IsExtended p i) k) sets traces

-- an extension's model, its modes and its top event read the model's own variables
abbrev pub ExtensionModelsAreOwn : Type 0
ExtensionModelsAreOwn =
    (p : ProgramTree) (i : InstructionTree) (faults : List Fault) (top : Formula) (m : FlatModel) (fs : List Mode)
    (flat_top : Tree FlatLeaf) → IsExtensionModel p i faults top m fs flat_top → AreOwn m fs flat_top
