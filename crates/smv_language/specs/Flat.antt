-- A flat model, and the values of its expressions.
use Rattle.std.specs.Prelude.{◌≡◌, ℕ, true, IsTrue, List, [], ◌∷◌, ◌++◌, Option, Some, None, slice_get}
use Rattle.smv_language.specs.Tree.{Tree}
use Rattle.smv_language.specs.ProgramTree.{Text, DeclaredTree}
use Rattle.smv_language.specs.Values.{Value, truth, symbol, Values, one, has}
use Rattle.smv_language.specs.Evaluate.{Leaves, evaluate}
use Rattle.smv_language.specs.Scope.{Place, Role}
use Rattle.smv_language.specs.May.{Valuation}

-- a variable, a symbol or an earlier definition, by its number
pub data FlatLeaf : Type 0 where
  flat_variable : ℕ → FlatLeaf
  flat_symbol : ℕ → FlatLeaf
  flat_definition : ℕ → FlatLeaf

-- an instance: where it stands, from the innermost name outwards, and its module
pub record FlatInstance : Type 0 where
  pub place : Place
  pub module_name : Text

-- a variable: its instance and name, who chooses its values, its type, its item's number, and its instance's
pub record FlatVariable : Type 0 where
  pub place : Place
  pub name : Text
  pub role : Role
  pub declared : DeclaredTree
  pub item : ℕ
  pub number : ℕ

-- a formula or definition, with its item's number and its instance's
pub record FlatFormula : Type 0 where
  pub value : Tree FlatLeaf
  pub item : ℕ
  pub number : ℕ

-- the lists of a flat model, whose names are places in them, counted from 0
pub record FlatModel : Type 0 where
  pub instances : List FlatInstance
  pub variables : List FlatVariable
  pub definitions : List FlatFormula
  pub symbols : List Text
  pub at_first : List FlatFormula
  pub at_each : List FlatFormula
  pub at_step : List FlatFormula

-- one value, where there is one
abbrev pub one_of : Option Value → Option Values
one_of None = None
one_of (Some v) = Some (one v)

-- the symbol as one value, where there is one
abbrev pub symbol_of : Option Text → Option Values
symbol_of None = None
symbol_of (Some x) = Some (one (symbol x))

-- what a table of definitions has at a place, and nothing outside it
abbrev pub given : Option (Option Values) → Option Values
given None = None
given (Some vs) = vs

-- a value for each variable by its number, and what each definition gives
abbrev pub flat_leaves : List Text → List Value → List (Option Values) → Leaves FlatLeaf
flat_leaves symbols v table (flat_variable i) = one_of (slice_get v i)
flat_leaves symbols v table (flat_symbol i) = symbol_of (slice_get symbols i)
flat_leaves symbols v table (flat_definition i) = given (slice_get table i)

-- what a definition gives, over those before it
abbrev pub definition_gives : List Text → List Value → List (Option Values) → FlatFormula → Option Values
definition_gives symbols v table d = evaluate (flat_leaves symbols v table) (flat_leaves symbols v table) d.value

-- what each definition gives, one after another, over those before it
abbrev pub table_after : List Text → List Value → List (Option Values) → List FlatFormula → List (Option Values)
table_after symbols v table [] = table
table_after symbols v table (d ∷ ds) = table_after symbols v (table ++ definition_gives symbols v table d ∷ []) ds

-- what each name gives in a valuation
abbrev pub leaves_at : FlatModel → List Value → Leaves FlatLeaf
leaves_at m v = flat_leaves m.symbols v (table_after m.symbols v [] m.definitions)

-- the flat expression has these values, with values now and at the next moment
abbrev pub FlatGives : FlatModel → List Value → List Value → Tree FlatLeaf → Values → Type 0
FlatGives m v w e vs = evaluate (leaves_at m v) (leaves_at m w) e ≡ Some vs

-- the flat expression has this value among its values
abbrev pub FlatMay : FlatModel → List Value → List Value → Tree FlatLeaf → Value → Type 0
FlatMay m v w e x = (vs : Values) × FlatGives m v w e vs × IsTrue (has vs x)

-- the formula may be TRUE
abbrev pub Holds : FlatModel → List Value → List Value → FlatFormula → Type 0
Holds m v w f = FlatMay m v w f.value (truth true)

-- the values by number are those of the valuation
abbrev pub Numbers : FlatModel → List Value → Valuation → Type 0
Numbers m v named = (i : ℕ) (x : FlatVariable) → slice_get m.variables i ≡ Some x → slice_get v i ≡ Some (named x.place x.name)
