-- What a weave keeps of a top event, as statements.
use Rattle.std.specs.Prelude.{◌≡◌, ◌↔◌, Bool, false, List, [], None}
use Rattle.smv_language.specs.Language.{Tree, Formula, ProgramTree, Place, Value, Valuation, May, FlatLeaf, FlatModel, FlatMay, EachBoth}
use Rattle.fault_instructions.specs.Instructions.{InstructionTree}
use Rattle.fault_weave.specs.Conservative.{IsCutMoment}
use Rattle.fault_weave.specs.ExtensionTraces.{Moment}
use Rattle.fault_weave.specs.Faults.{Fault, HasFaults}
use Rattle.fault_weave.specs.WovenProgram.{woven}
use Rattle.fault_instructions.specs.Weavable.{IsReadable, IsWeavable}
use Rattle.smv_flat_laws.specs.History.{Mode, with_history}
use Rattle.smv_flat_laws.specs.Model.{IsFlatOf}
use Rattle.smv_flat_laws.specs.ResolvedAt.{IsResolvedAt}
use Rattle.smv_flat_laws.specs.Rules.{IsAccepted}
use Rattle.smv_type_laws.specs.Laws.{ReadsOwn, IsClosed, values_by_number}
use Rattle.smv_type_laws.specs.Models.{top_fault}
use Rattle.cert_laws.specs.ExtendedTraces.{IsModeOfFault, IsExtensionModel}
use Rattle.fault_woven_laws.specs.Tops.{HaveFlatModels, IsReadAs, IsJudgedAlike, IsTopOf}
use Rattle.smv_flat_laws.specs.ValueRules.{KeepsValue}

-- an expression that breaks no rule of names breaks none over the woven program
abbrev pub WovenKeepsValues : Type 0
WovenKeepsValues = (p : ProgramTree) (i : InstructionTree) → IsWeavable p i → (at : Place) (inputs : Bool) (e : Formula) →
    KeepsValue p at inputs e → KeepsValue (woven p i) at inputs e

-- what is resolved over the program is resolved over the woven program
abbrev pub WovenResolves : Type 0
WovenResolves =
    (p : ProgramTree) (m : FlatModel) (i : InstructionTree) (w : FlatModel) → HaveFlatModels p m i w →
    (at : Place) (e : Formula) (tree : Tree FlatLeaf) → IsResolvedAt p m at e tree →
    (woven_tree : Tree FlatLeaf) × IsReadAs p m i w at e tree woven_tree

-- it is judged over the woven program's flat model as over the program's
abbrev pub WovenJudgesAlike : Type 0
WovenJudgesAlike =
    (p : ProgramTree) (m : FlatModel) (i : InstructionTree) (w : FlatModel) → HaveFlatModels p m i w →
    (at : Place) (e : Formula) (tree woven_tree : Tree FlatLeaf) →
    IsReadAs p m i w at e tree woven_tree → IsJudgedAlike m tree w woven_tree

-- and what reads a model's own names is judged over the model with history as over the model
abbrev pub HistoryJudgesAlike : Type 0
HistoryJudgesAlike = (m : FlatModel) (fs : List Mode) → IsClosed m → (e : Tree FlatLeaf) → ReadsOwn m e →
    IsJudgedAlike m e (with_history m fs) e

-- so a condition for which no rule of kinds or size is told is refused neither over the woven model nor with its history
abbrev pub WovenRefusesNone : Type 0
WovenRefusesNone =
    (p : ProgramTree) (m : FlatModel) (i : InstructionTree) (w : FlatModel) → HaveFlatModels p m i w →
    (at : Place) (e : Formula) (tree woven_tree : Tree FlatLeaf) →
    IsReadAs p m i w at e tree woven_tree → top_fault m tree ≡ None → (fs : List Mode) →
    (top_fault w woven_tree ≡ None) × (top_fault (with_history w fs) woven_tree ≡ None)

-- the names of an expression that is resolved in a program's flat model mean something
abbrev pub ResolvedIsReadable : Type 0
ResolvedIsReadable = (p : ProgramTree) (m : FlatModel) → IsFlatOf p m → (at : Place) (e : Formula) (tree : Tree FlatLeaf) →
    IsResolvedAt p m at e tree → IsReadable p at e

-- At valuations of the woven program it may have the values that it may have at what they are cut to, the read values; and
-- over the program's own model it may have these at the read values too.
abbrev pub WovenMeansTheSame : Type 0
WovenMeansTheSame =
    (p : ProgramTree) (m : FlatModel) (i : InstructionTree) (w : FlatModel) → HaveFlatModels p m i w →
    (at : Place) (e : Formula) (tree woven_tree : Tree FlatLeaf) →
    IsReadAs p m i w at e tree woven_tree → (now next : Valuation) (here there : Moment) → IsCutMoment p i now here →
    IsCutMoment p i next there → (x : Value) →
    (FlatMay w (values_by_number w now) (values_by_number w next) woven_tree x ↔ May p at here.read there.read e x)
    × (FlatMay m (values_by_number m here.read) (values_by_number m there.read) tree x ↔ May p at here.read there.read e x)

-- a top event that is read over both is one of the extension's model
abbrev pub TopsAreOfExtensions : Type 0
TopsAreOfExtensions =
    (p : ProgramTree) (m : FlatModel) (i : InstructionTree) (w : FlatModel) → HaveFlatModels p m i w → IsAccepted (woven p i) →
    (faults : List Fault) (modes : List Mode) →
    HasFaults p i faults → EachBoth (IsModeOfFault w) faults modes → (top : Formula) (tree woven_tree : Tree FlatLeaf) →
    IsReadAs p m i w [] top tree woven_tree →
    IsExtensionModel p i faults top w modes woven_tree

-- and where it breaks no rule over the program, its clauses can be written over the woven model and with its history
abbrev pub TopsFitModels : Type 0
TopsFitModels =
    (p : ProgramTree) (m : FlatModel) (i : InstructionTree) (w : FlatModel) → HaveFlatModels p m i w → IsAccepted (woven p i) →
    (at : Place) (top : Formula) (tree woven_tree : Tree FlatLeaf) →
    IsReadAs p m i w at top tree woven_tree → KeepsValue p at false top → top_fault m tree ≡ None →
    IsTopOf w woven_tree × ((fs : List Mode) → IsTopOf (with_history w fs) woven_tree)
