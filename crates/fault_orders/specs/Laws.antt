-- The laws of orders of faults.
use Rattle.std.specs.Prelude.{◌≡◌, ◌↔◌, ℕ, ◌<◌, ◌-◌, Bool, IsTrue, List, [], ◌∷◌, ◌++◌, Option, Some, None, length, map, take, slice_get}
use Rattle.smv_language.specs.Language.{Tree, Value, one, Each, FlatLeaf, FlatModel, FlatGives}
use Rattle.smv_language.specs.Values.{truth}
use Rattle.smv_flat_laws.specs.History.{Mode}
use Rattle.smv_flat_laws.specs.FlatTrace.{IsFlatMoment, IsFlatTrace, IsModeOf, stands, stands_in_some}
use Rattle.smv_flat_laws.specs.NameResolution.{leaves_in}
use Rattle.fault_cause_laws.specs.Additions.{KnowsNames, IsKnownName}
use Rattle.cut_right_laws.specs.Right.{HasFailedExactly}
use Rattle.cut_right_laws.specs.Sets.{has_number}
use Rattle.sat_encoding_laws.specs.FlatTraces.{ReachesTop, HasFailedNumber, IsNumbered, last_of}
use Rattle.fault_orders.specs.declared.Relation.{Relation}
use Rattle.fault_orders.specs.Relations.{HasRelation}
use Rattle.fault_orders.specs.Stage.{stage, against}
use Rattle.fault_orders.specs.RelationValues.{ordered_told, told_relation}

-- two modes among the faults, by their numbers from one on
pub record ArePair (fs : List Mode) (first second : ℕ) (f g : Mode) : Type 0 where
  pub first_counts : 0 < first
  pub second_counts : 0 < second
  pub is_first : slice_get fs (first - 1) ≡ Some f
  pub is_second : slice_get fs (second - 1) ≡ Some g

-- the traces of the staged model are those of the model, each with its history and with what the two booleans tell
abbrev pub OrdersAreTold : Type 0
OrdersAreTold =
    (m : FlatModel) (fs : List Mode) (first second : ℕ) (f g : Mode) → KnowsNames m → Each (IsModeOf m) fs → ArePair fs first second f g →
    (long : List (List Value)) →
    (IsFlatTrace (stage m fs first second) long
    ↔ ((trace : List (List Value)) × IsFlatTrace m trace × (long ≡ ordered_told m fs f g trace)))

-- the trace does not have the relation that is claimed; where none is, every trace speaks against it
abbrev pub Breaks : FlatModel → Mode → Mode → Option Relation → List (List Value) → Type 0
Breaks m f g None trace = Unit {0}
Breaks m f g (Some r) trace = HasRelation (List Value) r (λ v. IsTrue (stands m f v)) (λ v. IsTrue (stands m g v)) trace → ⊥

-- the trace reaches the top event, has failed exactly the set, and breaks the claim
pub record SpeaksAgainst (m : FlatModel) (fs : List Mode) (top : Tree FlatLeaf) (set : List ℕ) (f g : Mode) (claim : Option Relation)
    (trace : List (List Value)) : Type 0 where
  pub reaches : ReachesTop m top trace
  pub exactly : HasFailedExactly (List (List Value)) (IsFlatTrace m) (ReachesTop m top) (HasFailedNumber m fs) trace set
  pub breaks : Breaks m f g claim trace

-- the top event is an expression of the model
abbrev pub IsKnownTop : FlatModel → Tree FlatLeaf → Type 0
IsKnownTop m top = Each (IsKnownName (length m.variables) (length m.symbols)) (leaves_in top)

-- it gives one truth value at each moment of the model, as a lawful top event does
abbrev pub IsTruth : FlatModel → Tree FlatLeaf → Type 0
IsTruth m top = (v : List Value) → IsFlatMoment m v → (b : Bool) × FlatGives m v v top (one (truth b))

-- the expression is TRUE at the end of the staged trace exactly where the trace speaks against the claim
abbrev pub AgainstIsExact : Type 0
AgainstIsExact =
    (m : FlatModel) (fs : List Mode) (first second : ℕ) (f g : Mode) → KnowsNames m → Each (IsModeOf m) fs → ArePair fs first second f g →
    (top : Tree FlatLeaf) → IsKnownTop m top → IsTruth m top → (set : List ℕ) → IsNumbered (length fs) set →
    IsTrue (has_number set first) → IsTrue (has_number set second) →
    (claim : Option Relation) (trace : List (List Value)) → IsFlatTrace m trace →
    (ReachesTop (stage m fs first second) (against (stage m fs first second) (length fs) top set claim) (ordered_told m fs f g trace)
    ↔ SpeaksAgainst m fs top set f g claim trace)

-- the last two values of a staged trace tell how two modes stand to each other in the trace that it is told of
pub record TellsOrder (m : FlatModel) (f g : Mode) (trace long : List (List Value)) : Type 0 where
  pub front : List Value
  pub ahead : Bool
  pub behind : Bool
  pub ends : last_of long ≡ front ++ (truth ahead ∷ truth behind ∷ [])
  pub relation : HasRelation (List Value) (told_relation ahead behind) (λ v. IsTrue (stands m f v)) (λ v. IsTrue (stands m g v)) trace

-- they do so where both modes stand at some moment
abbrev pub EndsTellOrders : Type 0
EndsTellOrders =
    (m : FlatModel) (fs : List Mode) (f g : Mode) (trace : List (List Value)) → IsTrue (stands_in_some m f trace) →
    IsTrue (stands_in_some m g trace) → TellsOrder m f g trace (ordered_told m fs f g trace)

-- the values of the model's own variables come first in each valuation of a staged trace
abbrev pub OwnValuesAreKept : Type 0
OwnValuesAreKept = (m : FlatModel) (fs : List Mode) (f g : Mode) (trace : List (List Value)) → IsFlatTrace m trace →
    map (take (length m.variables)) (ordered_told m fs f g trace) ≡ trace
