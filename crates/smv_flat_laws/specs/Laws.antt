-- The laws of flattening, as statements.
use Rattle.std.specs.Prelude.{◌≡◌, ◌↔◌, ℕ, Some, List, length, slice_get}
use Rattle.smv_language.specs.Language.{Text, DeclaredTree, ProgramTree, Place, Role, Value, Valuation, IsVariable, FlatVariable, FlatModel}
use Rattle.smv_language.specs.Language.{Numbers}
use Rattle.smv_flat_laws.specs.Rules.{Rule, number_of, IsFirstBroken, IsWalkable, IsAccepted}
use Rattle.smv_flat_laws.specs.Model.{KeysDiffer, IsFlatOf, IsFlattened}

-- the model of an accepted program says what the program says
abbrev pub FlatteningIsExact : Type 0
FlatteningIsExact = (p : ProgramTree) (m : FlatModel) → IsAccepted p → IsFlatOf p m → IsFlattened p m

-- and its numbered variables are those of the program's instances
abbrev pub VariablesAreThose : Type 0
VariablesAreThose =
    (p : ProgramTree) (m : FlatModel) → IsAccepted p → IsFlatOf p m → (at : Place) (x : Text) →
    (((role : Role) × (type : DeclaredTree) × IsVariable p at x role type)
    ↔ ((i : ℕ) × (v : FlatVariable) × (slice_get m.variables i ≡ Some v) × (v.place ≡ at) × (v.name ≡ x)))

-- and each list of as many values is that of a valuation
abbrev pub ListsAreValuations : Type 0
ListsAreValuations =
    (p : ProgramTree) (m : FlatModel) → IsAccepted p → IsFlatOf p m → (v : List Value) → length v ≡ length m.variables →
    (named : Valuation) × Numbers m v named

-- a program has at most one first broken rule, with one item
abbrev pub OneFault : Type 0
OneFault = (p : ProgramTree) (r q : Rule) (i j : ℕ) → IsFirstBroken p r i → IsFirstBroken p q j → (number_of r ≡ number_of q) × (i ≡ j)

-- an accepted program has none
abbrev pub AcceptedHasNoFault : Type 0
AcceptedHasNoFault = (p : ProgramTree) (r : Rule) (i : ℕ) → IsAccepted p → IsFirstBroken p r i → ⊥

-- A program that keeps the rules of modules and of the walk has one flat model, where that has no definition twice.
abbrev pub OneModel : Type 0
OneModel = (p : ProgramTree) (m n : FlatModel) → IsWalkable p → (is : IsFlatOf p m) → KeysDiffer is.written → IsFlatOf p n → m ≡ n

-- An accepted program has a flat model, so that what is said of every flat model of a program is said of one at least.
abbrev pub AcceptedHasModel : Type 0
AcceptedHasModel = (p : ProgramTree) → IsAccepted p → (m : FlatModel) × IsFlatOf p m
