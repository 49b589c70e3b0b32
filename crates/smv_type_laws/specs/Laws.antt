-- The laws of kinds, as statements.
use Rattle.std.specs.Prelude.{◌≡◌, ℕ, suc, ◌<◌, ◌≤◌, ◌-◌, ◌^◌, ℤ, pos, negsuc, neg_ℤ, ◌≤ℤ◌, ◌<ℤ◌, Bool, true, false, Some, None, List, []}
use Rattle.std.specs.Prelude.{◌∷◌, length, map, ◌↔◌}
use Rattle.smv_language.specs.Language.{Tree, Formula, ProgramTree, AllLeaves, evaluate, Place, Valuation, name_values, May, Value, Values}
use Rattle.smv_language.specs.Language.{one, Each, InDomains, IsTrace, FlatLeaf, flat_variable, flat_symbol, flat_definition, FlatFormula}
use Rattle.smv_language.specs.Language.{FlatModel, leaves_at, FlatGives, FlatMay, Numbers}
use Rattle.smv_language.specs.Values.{truth}
use Rattle.smv_flat_laws.specs.Model.{IsFlatOf}
use Rattle.smv_flat_laws.specs.FlatTrace.{AreInDomains, IsFlatTrace}
use Rattle.smv_flat_laws.specs.NameResolution.{Resolver, IsSound, IsResolved}
use Rattle.smv_flat_laws.specs.Rules.{IsAccepted}
use Rattle.smv_type_laws.specs.Intervals.{Interval, fits}
use Rattle.smv_type_laws.specs.ExpressionKinds.{KindRule, number_of, Judged}
use Rattle.smv_type_laws.specs.KindValues.{IsOfKind, IsSafe}
use Rattle.smv_type_laws.specs.Costs.{width_of}
use Rattle.smv_type_laws.specs.FirstBreach.{first_fault}
use Rattle.smv_type_laws.specs.Models.{judged_in, broken_condition, IsFault, IsTyped}

-- the name is one of so many variables, symbols and definitions
abbrev pub IsKnown : ℕ → ℕ → ℕ → FlatLeaf → Type 0
IsKnown variables symbols definitions (flat_variable i) = i < variables
IsKnown variables symbols definitions (flat_symbol i) = i < symbols
IsKnown variables symbols definitions (flat_definition i) = i < definitions

-- the expression reads the model's own variables, symbols and definitions alone
abbrev pub ReadsOwn : FlatModel → Tree FlatLeaf → Type 0
ReadsOwn m e = AllLeaves (IsKnown (length m.variables) (length m.symbols) (length m.definitions)) e

-- each definition names those before it alone
abbrev pub AreInOrder : ℕ → ℕ → ℕ → List FlatFormula → Type 0
AreInOrder variables symbols k [] = Unit {0}
AreInOrder variables symbols k (d ∷ ds) = AllLeaves (IsKnown variables symbols k) d.value × AreInOrder variables symbols (suc k) ds

-- each of these formulas does
abbrev pub ReadOwn : FlatModel → List FlatFormula → Type 0
ReadOwn m fs = Each (λ f. ReadsOwn m f.value) fs

-- A model's formulas name its own variables, symbols and definitions, and its definitions earlier ones.
pub record IsClosed (m : FlatModel) : Type 0 where
  pub definitions : AreInOrder (length m.variables) (length m.symbols) 0 m.definitions
  pub at_first : ReadOwn m m.at_first
  pub at_each : ReadOwn m m.at_each
  pub at_step : ReadOwn m m.at_step

-- What an expression gives lies in its kind: at these values now and next it may have values of its kind alone, it
-- has some, and where it is no set exactly one; nothing in it is divided by 0, and no number in it is beyond 32 bits.
pub record KeepsKind (m : FlatModel) (v w : List Value) (j : Judged) (e : Tree FlatLeaf) : Type 0 where
  pub of_kind : (x : Value) → FlatMay m v w e x → IsOfKind j.kind x
  pub values : Values
  pub gives : FlatGives m v w e values
  pub alone : j.is_set ≡ false → (x : Value) × FlatGives m v w e (one x)
  pub safe : IsSafe (leaves_at m v) (leaves_at m w) e

-- each expression over a typed model that breaks no rule keeps its kind
abbrev pub ValuesLieInKinds : Type 0
ValuesLieInKinds =
    (m : FlatModel) → IsClosed m → IsTyped m → (v w : List Value) → AreInDomains m.variables v → AreInDomains m.variables w →
    (sets : Bool) (e : Tree FlatLeaf) → ReadsOwn m e → (judged_in m sets e).broken ≡ [] → KeepsKind m v w (judged_in m sets e) e

-- where a part that is no set is right, it is judged the same where sets may stand
abbrev pub SetsChangeNothing : Type 0
SetsChangeNothing = (m : FlatModel) (e : Tree FlatLeaf) → (judged_in m false e).broken ≡ [] → judged_in m true e ≡ judged_in m false e

-- A condition is TRUE or FALSE, and safe.
pub record IsDecided (m : FlatModel) (v w : List Value) (f : FlatFormula) : Type 0 where
  pub value : Bool
  pub gives : FlatGives m v w f.value (one (truth value))
  pub safe : IsSafe (leaves_at m v) (leaves_at m w) f.value

-- each condition of a typed model is decided
abbrev pub ConditionsAreDecided : Type 0
ConditionsAreDecided =
    (m : FlatModel) → IsClosed m → IsTyped m → (v w : List Value) → AreInDomains m.variables v → AreInDomains m.variables w →
    Each (IsDecided m v w) m.at_first × Each (IsDecided m v w) m.at_each × Each (IsDecided m v w) m.at_step

-- A definition has one value.
pub record IsDefined (m : FlatModel) (v : List Value) (d : FlatFormula) : Type 0 where
  pub value : Value
  pub gives : FlatGives m v v d.value (one value)
  pub of_kind : IsOfKind (judged_in m false d.value).kind value
  pub safe : IsSafe (leaves_at m v) (leaves_at m v) d.value

-- each definition of a typed model has one value, of its kind
abbrev pub DefinitionsAreDefined : Type 0
DefinitionsAreDefined = (m : FlatModel) → IsClosed m → IsTyped m → (v : List Value) → AreInDomains m.variables v →
    Each (IsDefined m v) m.definitions

-- a model has at most one fault, and none where it is typed
abbrev pub OneFault : Type 0
OneFault = (m : FlatModel) (r q : KindRule) (i j : ℕ) → IsFault m r i → IsFault m q j → (number_of r ≡ number_of q) × (i ≡ j)

-- and a typed model has none
abbrev pub TypedHasNoFault : Type 0
TypedHasNoFault = (m : FlatModel) (r : KindRule) (i : ℕ) → IsTyped m → IsFault m r i → ⊥

-- What a written expression may have lies in the kind of its flat form, and where that is no set, it gives exactly one
-- value.
pub record KeepsWrittenKind (p : ProgramTree) (at : Place) (now next : Valuation) (j : Judged) (e : Formula) : Type 0 where
  pub of_kind : (x : Value) → May p at now next e x → IsOfKind j.kind x
  pub alone : j.is_set ≡ false →
      (x : Value) × (n : ℕ) × (evaluate (name_values n p at now next) (name_values n p at next next) e ≡ Some (one x))

-- a program's flat model is closed
abbrev pub FlatModelsAreClosed : Type 0
FlatModelsAreClosed = (p : ProgramTree) (m : FlatModel) → IsFlatOf p m → IsClosed m

-- an expression that is resolved soundly may have exactly the values of the written one, at values of all variables
abbrev pub ResolvedMayHaveTheSame : Type 0
ResolvedMayHaveTheSame =
    (p : ProgramTree) (m : FlatModel) (is : IsFlatOf p m) (r : Resolver) → IsSound p m is.written r →
    (v w : List Value) (now next : Valuation) → Numbers m v now → Numbers m w next →
    (at : Place) (e : Formula) (flat : Tree FlatLeaf) → IsResolved (r at) e flat → (x : Value) →
    (May p at now next e x ↔ FlatMay m v w flat x)

-- each written expression of a lawful program, resolved soundly, keeps the kind of its flat form
abbrev pub WrittenValuesLieInKinds : Type 0
WrittenValuesLieInKinds =
    (p : ProgramTree) (m : FlatModel) → IsAccepted p → (is : IsFlatOf p m) → IsTyped m → (r : Resolver) → IsSound p m is.written r →
    (now next : Valuation) → InDomains p now → InDomains p next → (at : Place) (e : Formula) (flat : Tree FlatLeaf) →
    IsResolved (r at) e flat →
    (sets : Bool) → (judged_in m sets flat).broken ≡ [] →
    KeepsWrittenKind p at now next (judged_in m sets flat) e

-- each written condition of a lawful program, resolved soundly, has one truth value, as a guard has
abbrev pub WrittenConditionsAreDecided : Type 0
WrittenConditionsAreDecided =
    (p : ProgramTree) (m : FlatModel) → IsAccepted p → (is : IsFlatOf p m) → IsTyped m → (r : Resolver) → IsSound p m is.written r →
    (now next : Valuation) → InDomains p now → InDomains p next → (at : Place) (e : Formula) (flat : Tree FlatLeaf) →
    IsResolved (r at) e flat →
    broken_condition (judged_in m false flat) ≡ [] →
    (n : ℕ) × (b : Bool) × (evaluate (name_values n p at now next) (name_values n p at next next) e ≡ Some (one (truth b)))

-- a model has a fault, which is found breach by breach, or is typed
abbrev pub FirstFaultIsFound : Type 0
FirstFaultIsFound =
    (m : FlatModel) → ((r : KindRule) (i : ℕ) → first_fault m ≡ Some (r, i) → IsFault m r i) × (first_fault m ≡ None → IsTyped m)

-- So many bits hold the numbers between two: without a sign where none is below 0, else in two's complement.
abbrev pub BitsHold : ℤ → ℤ → ℕ → Type 0
BitsHold (pos n) hi w = (1 ≤ w) × (hi <ℤ pos (2 ^ w))
BitsHold (negsuc n) hi w = (1 ≤ w) × (neg_ℤ (pos (2 ^ (w - 1))) ≤ℤ negsuc n) × (hi <ℤ pos (2 ^ (w - 1)))

-- the width of an interval is the least number of bits that hold its numbers
abbrev pub WidthsAreLeast : Type 0
WidthsAreLeast = (i : Interval) → i.lo ≤ℤ i.hi → fits i ≡ true →
    BitsHold i.lo i.hi (width_of i) × ((w : ℕ) → BitsHold i.lo i.hi w → width_of i ≤ w)

-- the values of a valuation, by the numbers of the variables
abbrev pub values_by_number : FlatModel → Valuation → List Value
values_by_number m v = map (λ x. v x.place x.name) m.variables

-- a valuation lies in a program's domains exactly where its values lie in those of the numbered variables
abbrev pub DomainsAreThose : Type 0
DomainsAreThose =
    (p : ProgramTree) (m : FlatModel) → IsAccepted p → IsFlatOf p m → (v : Valuation) →
    (InDomains p v ↔ AreInDomains m.variables (values_by_number m v))

-- the traces of a program are the traces of its flat model
abbrev pub TracesAreThose : Type 0
TracesAreThose =
    (p : ProgramTree) (m : FlatModel) → IsAccepted p → IsFlatOf p m →
    ((trace : List Valuation) → (IsTrace p trace ↔ IsFlatTrace m (map (values_by_number m) trace)))
    × ((flat : List (List Value)) → IsFlatTrace m flat → (trace : List Valuation) × (map (values_by_number m) trace ≡ flat))
