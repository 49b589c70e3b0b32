-- The values of a model's variables and definitions at a moment, as they are computed one after the other.
use Rattle.std.specs.Prelude.{◌≡◌, ◌&&◌, Bool, List, [], ◌∷◌, ◌++◌, length}
use Rattle.std.specs.List.{list_all}
use Rattle.smv_language.specs.Language.{Tree, tree_of}
use Rattle.base_values.specs.declared.value.Value.{Value}
use Rattle.smv_language.specs.declared.model.Flat.{Flat}
use Rattle.smv_language.specs.declared.model.Formula.{Formula}
use Rattle.smv_language.specs.declared.model.FlatModel.{FlatModel}
use Rattle.smv_evaluation.specs.declared.ask.AskedValue.{AskedValue}
use Rattle.smv_evaluation.specs.declared.ask.AskedValue.TheVariants.{ItsValue}
use Rattle.smv_evaluation.specs.OperatorValues.{is_true}
use Rattle.smv_evaluation.specs.Evaluation.{name_value, asked_of}
use Rattle.smv_evaluation.specs.Entries.{Entries}

-- the value of a definition, over those before it
abbrev pub definition_value : List Value → List Value → Formula → Value
definition_value variables done d = asked_of (name_value variables done) (name_value variables done) ItsValue (tree_of d.value)

-- the values of definitions, after those before them
abbrev pub definition_values : List Value → List Value → List Formula → List Value
definition_values variables done [] = done
definition_values variables done (d ∷ ds) = definition_values variables (done ++ definition_value variables done d ∷ []) ds

-- a model's values at a moment
abbrev pub filled : FlatModel → List Value → Entries
filled m v = record { variables = v; definitions = definition_values v [] m.definitions }

-- as many as the model has variables and definitions
pub record HasRoom (m : FlatModel) (e : Entries) : Type 0 where
  pub variables : length e.variables ≡ length m.variables
  pub definitions : length e.definitions ≡ length m.definitions

-- a value for each variable
abbrev pub HasValues : FlatModel → List Value → Type 0
HasValues m v = length v ≡ length m.variables

-- what a name has in a table
abbrev pub entry : Entries → Flat → Value
entry e = name_value e.variables e.definitions

-- the answer of an expression from the tables now and next
abbrev pub answer_in : Entries → Entries → AskedValue → Tree Flat → Value
answer_in now next asked t = asked_of (entry now) (entry next) asked t

-- a formula is TRUE
abbrev pub holds : Entries → Entries → Formula → Bool
holds now next f = is_true (answer_in now next ItsValue (tree_of f.value))

-- each of these is
abbrev pub all_hold : Entries → Entries → List Formula → Bool
all_hold now next fs = list_all (holds now next) fs

-- a moment may be the first one
abbrev pub first_holds : FlatModel → Entries → Bool
first_holds m now = all_hold now now m.init && all_hold now now m.invar

-- a moment may come after another
abbrev pub step_holds : FlatModel → Entries → Entries → Bool
step_holds m now next = all_hold now next m.trans && all_hold next next m.invar
