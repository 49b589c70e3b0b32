-- What a search against a claim says of extended traces.
use Rattle.std.specs.Prelude.{◌≡◌, ℕ, ◌-◌, Bool, IsTrue, List, Option, Some, None, length, slice_get, false, [], ◌∷◌, ◌++◌}
use Rattle.smv_language.specs.Language.{Tree, Formula, ProgramTree, Value, FlatLeaf, FlatModel}
use Rattle.smv_language.specs.Values.{truth}
use Rattle.smv_flat_laws.specs.History.{Mode}
use Rattle.smv_flat_laws.specs.FlatTrace.{IsFlatTrace}
use Rattle.smv_type_laws.specs.ExpressionKinds.{truth_class}
use Rattle.smv_type_laws.specs.Laws.{ReadsOwn, IsClosed}
use Rattle.smv_type_laws.specs.Models.{judged_in, IsTyped}
use Rattle.fault_instructions.specs.Instructions.{InstructionTree}
use Rattle.fault_weave.specs.ExtensionTraces.{Moment, IsExtended, Reaches}
use Rattle.fault_weave.specs.Faults.{Fault}
use Rattle.cut_right_laws.specs.Right.{HasFailedExactly}
use Rattle.cut_right_laws.specs.Sets.{has_number}
use Rattle.sat_encoding_laws.specs.FlatTraces.{ReachesTop, IsNumbered, last_of}
use Rattle.cert_laws.specs.ExtendedTraces.{IsExtensionModel, IsFlatCut, HasFailedFault}
use Rattle.fault_orders.specs.declared.Relation.{Relation}
use Rattle.fault_orders.specs.Relations.{HasRelation}
use Rattle.fault_orders.specs.Stage.{stage, against}
use Rattle.fault_orders.specs.RelationValues.{ordered_told, told_relation}
use Rattle.fault_orders.specs.Laws.{ArePair, IsTruth}

-- the fault's mode stands at the moment
abbrev pub FaultStands : Fault → Moment → Type 0
FaultStands fault mo = mo.mode fault.place fault.slice ≡ Some fault.mode

-- a pair of faults of an extension, with their modes, and a set that has both
pub record IsAsked (faults : List Fault) (m : FlatModel) (fs : List Mode) (top : Tree FlatLeaf) (set : List ℕ) (first second : ℕ)
    (f g : Mode) (one other : Fault) : Type 0 where
  pub pair : ArePair fs first second f g
  pub is_one : slice_get faults (first - 1) ≡ Some one
  pub is_other : slice_get faults (second - 1) ≡ Some other
  pub numbered : IsNumbered (length fs) set
  pub first_in : IsTrue (has_number set first)
  pub second_in : IsTrue (has_number set second)
  pub truth : IsTruth m top

-- no staged trace of at most so many moments is TRUE at its end of what speaks against the claim
abbrev pub NoneAgainst : FlatModel → List Mode → ℕ → ℕ → Tree FlatLeaf → List ℕ → Option Relation → (ℕ → Bool) → Type 0
NoneAgainst m fs first second top set claim class =
    (long : List (List Value)) → IsFlatTrace (stage m fs first second) long → IsTrue (class (length long)) →
    ReachesTop (stage m fs first second) (against (stage m fs first second) (length fs) top set claim) long → ⊥

-- an extended trace that reaches the top event and has failed exactly the set
pub record IsSuch (p : ProgramTree) (i : InstructionTree) (faults : List Fault) (top : Formula) (set : List ℕ) (trace : List Moment) : Type
    0 where
  pub is_trace : IsExtended p i trace
  pub reaches : Reaches p top trace
  pub exactly : HasFailedExactly (List Moment) (IsExtended p i) (Reaches p top) (HasFailedFault faults) trace set

-- the class is a test of lengths: every one passes, or those up to a number
abbrev pub OrdersAreSaid : Type 0
OrdersAreSaid =
    (p : ProgramTree) (i : InstructionTree) (faults : List Fault) (top : Formula) (m : FlatModel) (fs : List Mode)
    (flat_top : Tree FlatLeaf) → IsExtensionModel p i faults top m fs flat_top →
    (set : List ℕ) (first second : ℕ) (f g : Mode) (one other : Fault) → IsAsked faults m fs flat_top set first second f g one other →
    (class : ℕ → Bool) (r : Relation) →
    NoneAgainst m fs first second flat_top set (Some r) class → (trace : List Moment) → IsSuch p i faults top set trace →
    IsTrue (class (length trace)) → HasRelation Moment r (FaultStands one) (FaultStands other) trace

-- where no staged trace reaches the top event with exactly the set, no such extended trace does
abbrev pub NoneIsSaid : Type 0
NoneIsSaid =
    (p : ProgramTree) (i : InstructionTree) (faults : List Fault) (top : Formula) (m : FlatModel) (fs : List Mode)
    (flat_top : Tree FlatLeaf) → IsExtensionModel p i faults top m fs flat_top →
    (set : List ℕ) (first second : ℕ) (f g : Mode) (one other : Fault) → IsAsked faults m fs flat_top set first second f g one other →
    (class : ℕ → Bool) →
    NoneAgainst m fs first second flat_top set None class → (trace : List Moment) → IsSuch p i faults top set trace →
    IsTrue (class (length trace)) → ⊥

-- a top event that the kinds accept as a truth value gives one at each moment
abbrev pub LawfulTopsAreTruths : Type 0
LawfulTopsAreTruths =
    (m : FlatModel) → IsClosed m → IsTyped m → (top : Tree FlatLeaf) → ReadsOwn m top → (judged_in m false top).broken ≡ [] →
    (judged_in m false top).kind.class ≡ truth_class →
    (judged_in m false top).is_set ≡ false → IsTruth m top

-- a staged trace is told of a flat trace, which is cut to an extended one that reaches the top event and has failed exactly the set
pub record ShowsSuch (p : ProgramTree) (i : InstructionTree) (faults : List Fault) (top : Formula) (m : FlatModel) (fs : List Mode)
    (set : List ℕ) (f g : Mode) (long : List (List Value)) : Type 0 where
  pub flat : List (List Value)
  pub is_flat : IsFlatTrace m flat
  pub told : long ≡ ordered_told m fs f g flat
  pub trace : List Moment
  pub cut : IsFlatCut p i m flat trace
  pub such : IsSuch p i faults top set trace

-- the last two values of a staged trace tell how two faults stand to each other in an extended one
pub record TellsRelation (one other : Fault) (trace : List Moment) (long : List (List Value)) : Type 0 where
  pub front : List Value
  pub ahead : Bool
  pub behind : Bool
  pub ends : last_of long ≡ front ++ (truth ahead ∷ truth behind ∷ [])
  pub relation : HasRelation Moment (told_relation ahead behind) (FaultStands one) (FaultStands other) trace

-- A staged trace that is TRUE at its end of the top event with exactly the set shows such an extended trace, and tells its relation.
abbrev pub FoundAreSuch : Type 0
FoundAreSuch =
    (p : ProgramTree) (i : InstructionTree) (faults : List Fault) (top : Formula) (m : FlatModel) (fs : List Mode)
    (flat_top : Tree FlatLeaf) → IsExtensionModel p i faults top m fs flat_top →
    (set : List ℕ) (first second : ℕ) (f g : Mode) (one other : Fault) → IsAsked faults m fs flat_top set first second f g one other →
    (long : List (List Value)) → IsFlatTrace (stage m fs first second) long →
    ReachesTop (stage m fs first second) (against (stage m fs first second) (length fs) flat_top set None) long →
    (s : ShowsSuch p i faults top m fs set f g long) × TellsRelation one other s.trace long

-- One that is TRUE at its end of what speaks against a claim shows such a trace without the claimed relation.
abbrev pub OthersAreSuch : Type 0
OthersAreSuch =
    (p : ProgramTree) (i : InstructionTree) (faults : List Fault) (top : Formula) (m : FlatModel) (fs : List Mode)
    (flat_top : Tree FlatLeaf) → IsExtensionModel p i faults top m fs flat_top →
    (set : List ℕ) (first second : ℕ) (f g : Mode) (one other : Fault) → IsAsked faults m fs flat_top set first second f g one other →
    (r : Relation) (long : List (List Value)) →
    IsFlatTrace (stage m fs first second) long →
    ReachesTop (stage m fs first second) (against (stage m fs first second) (length fs) flat_top set (Some r)) long →
    (s : ShowsSuch p i faults top m fs set f g long) × (HasRelation Moment r (FaultStands one) (FaultStands other) s.trace → ⊥)
