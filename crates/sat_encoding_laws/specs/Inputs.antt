-- Which definitions and expressions of a model read an input.
use Rattle.std.specs.Prelude.{Bool, true, false, Option, Some, None, List, [], ◌∷◌, ◌++◌, slice_get}
use Rattle.std.specs.List.{list_any}
use Rattle.smv_language.specs.Language.{Tree, Role, state, input, frozen_role, FlatLeaf, flat_variable, flat_symbol, flat_definition}
use Rattle.smv_language.specs.Language.{FlatVariable, FlatFormula, FlatModel}
use Rattle.smv_flat_laws.specs.NameResolution.{leaves_in}
use Rattle.base_values.specs.Marks.{is_set}

-- the role of an input
abbrev pub is_input : Role → Bool
is_input state = false
is_input frozen_role = false
is_input input = true

-- the variable is an input, where there is one
abbrev pub is_input_variable : Option FlatVariable → Bool
is_input_variable None = false
is_input_variable (Some x) = is_input x.role

-- the name is an input, or a definition that reads one
abbrev pub names_input : List FlatVariable → List Bool → FlatLeaf → Bool
names_input xs reading (flat_variable i) = is_input_variable (slice_get xs i)
names_input xs reading (flat_symbol i) = false
names_input xs reading (flat_definition i) = is_set (slice_get reading i)

-- some name of the expression is one
abbrev pub tree_reads_input : List FlatVariable → List Bool → Tree FlatLeaf → Bool
tree_reads_input xs reading e = list_any (names_input xs reading) (leaves_in e)

-- for each definition whether it reads an input, from what those before it do
abbrev pub reading_after : List FlatVariable → List Bool → List FlatFormula → List Bool
reading_after xs reading [] = reading
reading_after xs reading (d ∷ ds) = reading_after xs (reading ++ tree_reads_input xs reading d.value ∷ []) ds

-- the expression of the model reads an input, itself or through definitions
abbrev pub reads_input : FlatModel → Tree FlatLeaf → Bool
reads_input m e = tree_reads_input m.variables (reading_after m.variables [] m.definitions) e
