-- What the passes over a model build: the copies of its variables and definitions, and the lists.
use Rattle.std.specs.Prelude.{◌≡◌, ℕ, ◌+◌, ◌≤◌, Bool, not, false, ◌&&◌, List, [], if◌then◌else◌}
use Rattle.smv_language.specs.Language.{FlatFormula, FlatModel, model_tree}
use Rattle.smv_type_laws.specs.Costs.{state_bits}
use Rattle.smv_type_laws.specs.Models.{judged_in}
use Rattle.sat_circuits.specs.Circuit.{Circuit}
use Rattle.sat_circuits.specs.Gates.{constant_lit}
use Rattle.sat_encoding_laws.specs.Widths.{symbol_width}
use Rattle.sat_encoding_laws.specs.Signals.{Signal, bit}
use Rattle.sat_encoding_laws.specs.Expressions.{its_value, encoded}
use Rattle.sat_encoding_laws.specs.Layout.{input_bits}
use Rattle.sat_encoding_laws.specs.Inputs.{reading_after, reads_input}
use Rattle.sat_encoding_laws.specs.Lists.{Copy, names_of, copy_of as the_copy}
use Rattle.sat_expressions.specs.BuiltSignals.{signals_of}
use Rattle.sat_expressions.specs.declared.names.Copied.{Copied}
use Rattle.sat_expressions.specs.ModelNames.{copy_of, IsCopied}
use Rattle.sat_encoding.specs.declared.lists.ListsSource.{ListsSource}

-- the model that lists are made from
abbrev pub source_model : ListsSource → FlatModel
source_model s = model_tree s.model.now.model

-- what is known of the model beside it
pub record IsSource (s : ListsSource) : Type 0 where
  pub variables : s.reading.variables.now ≡ s.model.now.model.variables
  pub reading : s.reading.definitions.items ≡ reading_after (source_model s).variables [] (source_model s).definitions
  pub symbols : s.symbols ≡ symbol_width (source_model s).symbols
  pub inputs : s.inputs ≡ input_bits (source_model s)

-- an expression of the model breaks no rule
abbrev pub IsRightFormula : FlatModel → FlatFormula → Type 0
IsRightFormula m f = (judged_in m false f.value).broken ≡ []

-- the definition over those before it, or FALSE where it is left out
abbrev pub definition_signal : FlatModel → List Signal → Bool → FlatFormula → List Signal → Circuit → Circuit × Signal
definition_signal m variables all d done s =
    if reads_input m d.value
    && not all then (s, bit (constant_lit false)) else encoded (names_of m (the_copy variables done) (the_copy variables done))
    its_value d.value s

-- r, which was built onto s, is t with these definitions over the given variables
pub record BuildsDefinitions (over : List Signal) (s : Circuit) (r : Circuit × List Signal) (t : Circuit) (c : Copied) : Type 0 where
  pub exact : r ≡ (t, signals_of c.definitions)
  pub variables : signals_of c.variables ≡ over
  pub usable : IsCopied t c
  pub grows : s.free ≤ t.free

-- the definitions so far are built, and those that are left build the whole
pub record Defines (m : FlatModel) (over : List Signal) (s : Circuit) (r rest : Circuit
    × List Signal) (t : Circuit) (c : Copied) : Type 0 where
  pub left : r ≡ rest
  pub variables : signals_of c.variables ≡ over
  pub usable : IsCopied t c
  pub grows : s.free ≤ t.free

-- r, which was built onto s, is t with this copy
pub record BuildsCopy (s : Circuit) (r : Circuit × Copy) (t : Circuit) (c : Copied) : Type 0 where
  pub exact : r ≡ (t, copy_of c)
  pub usable : IsCopied t c
  pub grows : s.free ≤ t.free

-- r, which was built onto s, is t
pub record Builds (s r t : Circuit) : Type 0 where
  pub exact : r ≡ t
  pub grows : s.free ≤ t.free

-- the bits of a copy stand below the gates: those of its state from p on, and those of the inputs from q on
pub record IsPlaced (m : FlatModel) (s : Circuit) (p q : ℕ) : Type 0 where
  pub state : p + state_bits m ≤ s.free
  pub inputs : q + input_bits m ≤ s.free
