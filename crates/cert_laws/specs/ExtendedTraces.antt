-- Extended traces and the flat traces of the woven program's model that they correspond to.
use Rattle.std.specs.Prelude.{◌≡◌, ℕ, ◌-◌, ◌<◌, List, [], Some, map, slice_get}
use Rattle.smv_language.specs.Language.{Tree, Formula, ProgramTree, Value, Valuation, FlatLeaf, FlatModel, EachBoth}
use Rattle.smv_flat_laws.specs.History.{Mode}
use Rattle.smv_flat_laws.specs.Model.{IsVariableNumber, IsFlatOf}
use Rattle.smv_flat_laws.specs.ResolvedAt.{IsResolvedAt}
use Rattle.smv_flat_laws.specs.Rules.{IsAccepted}
use Rattle.smv_type_laws.specs.Laws.{values_by_number}
use Rattle.fault_instructions.specs.Instructions.{InstructionTree}
use Rattle.fault_instructions.specs.AddedNames.{mode_variable, mode_symbol}
use Rattle.fault_weave.specs.ExtensionTraces.{Moment, IsExtended, HasFailed, Reaches}
use Rattle.fault_weave.specs.Conservative.{IsCut}
use Rattle.fault_weave.specs.Faults.{Fault, HasFaults}
use Rattle.fault_weave.specs.WovenProgram.{woven}
use Rattle.fault_instructions.specs.Weavable.{IsReadable, IsWeavable}
use Rattle.cut_right_laws.specs.Right.{IsRight}

-- the fault's mode in a flat model: the variable holds the state of the slice at the instance, and the symbol is that of the mode
pub record IsModeOfFault (m : FlatModel) (fault : Fault) (mode : Mode) : Type 0 where
  pub variable : IsVariableNumber m fault.place (mode_variable fault.slice) mode.variable
  pub symbol : slice_get m.symbols mode.symbol ≡ Some (mode_symbol fault.slice (Some fault.mode))

-- the trace has failed the fault of a number, from one on
abbrev pub HasFailedFault : List Fault → List Moment → ℕ → Type 0
HasFailedFault faults trace i = (f : Fault) × (0 < i) × (slice_get faults (i - 1) ≡ Some f) × HasFailed trace f

-- sets, with one extended trace each, are right for a class of the extended traces
abbrev pub IsRightExtended : ProgramTree → InstructionTree → List Fault → Formula → ℕ → (List Moment → Type 0) → List (List ℕ) →
    List (List Moment) → Type 0
IsRightExtended p i faults top size class sets traces =
    IsRight (List Moment) (IsExtended p i) (Reaches p top) (HasFailedFault faults) size class sets traces

-- The flat model of what is woven of a program and instructions, with their faults as modes, and a top event of the
-- program as an expression of that model.
pub record IsExtensionModel (p : ProgramTree) (i : InstructionTree) (faults : List Fault) (top : Formula) (m : FlatModel) (fs : List Mode)
    (flat_top : Tree FlatLeaf) : Type 0 where
  pub weavable : IsWeavable p i
  pub accepted : IsAccepted (woven p i)
  pub flat : IsFlatOf (woven p i) m
  pub has_faults : HasFaults p i faults
  pub modes : EachBoth (IsModeOfFault m) faults fs
  pub readable : IsReadable p [] top
  pub resolved : IsResolvedAt (woven p i) m [] top flat_top

-- the valuations whose values by number are the flat ones are cut to the moments
abbrev pub IsFlatCut : ProgramTree → InstructionTree → FlatModel → List (List Value) → List Moment → Type 0
IsFlatCut p i m flat trace = (vs : List Valuation) × (map (values_by_number m) vs ≡ flat) × IsCut p i vs trace
