-- What a flat model must be for its clause lists to mean it: typed, closed, and what the rules of flattening say of its
-- symbols and of inputs.
use Rattle.std.specs.Prelude.{◌≡◌, ◌≢◌, ℕ, Bool, false, List, [], Some, length, slice_get}
use Rattle.std.specs.List.{list_any}
use Rattle.smv_language.specs.declared.program.Member.{Member}
use Rattle.smv_language.specs.declared.program.Member.TheVariants as member
use Rattle.smv_language.specs.Language.{Text, DeclaredTree, boolean, range, members, instance, Tree, Each, FlatLeaf, FlatVariable}
use Rattle.smv_language.specs.Language.{FlatModel}
use Rattle.smv_flat_laws.specs.Rules.{leaves_under}
use Rattle.smv_type_laws.specs.Laws.{IsKnown, ReadsOwn, IsClosed}
use Rattle.smv_type_laws.specs.Models.{judged_in, broken_condition, IsTyped}
use Rattle.sat_encoding_laws.specs.Inputs.{is_input, names_input, reading_after, reads_input}
use Rattle.sat_encoding_laws.specs.Meanings.{AreSymbols}

-- a member that is a symbol is one of these
abbrev pub IsListedMember : List Text → Member → Type 0
IsListedMember symbols (member.Number n) = Unit {0}
IsListedMember symbols (member.Symbol x) = (i : ℕ) × (slice_get symbols i ≡ Some x)

-- the type has a value, and its symbols are among these
abbrev pub IsListedType : List Text → DeclaredTree → Type 0
IsListedType symbols boolean = Unit {0}
IsListedType symbols (range lo hi) = Unit {0}
IsListedType symbols (members ms) = (ms ≢ []) × Each (IsListedMember symbols) ms
IsListedType symbols (instance m actuals) = ⊥

-- the name is an input of the model, or a definition that reads one
abbrev pub is_input_name : FlatModel → FlatLeaf → Bool
is_input_name m l = names_input m.variables (reading_after m.variables [] m.definitions) l

-- the name is known to the model
abbrev pub IsKnownName : FlatModel → FlatLeaf → Type 0
IsKnownName m l = IsKnown (length m.variables) (length m.symbols) (length m.definitions) l

-- some name of the expression under `next` is an input or reads one
abbrev pub reads_next_input : FlatModel → Tree FlatLeaf → Bool
reads_next_input m e = list_any (is_input_name m) (leaves_under e)

-- The model is typed and names its own; its symbols are different, and those of its types are among them; and by the rules
-- on inputs none is read at a first moment, at each moment, or under `next`.
pub record IsEncodable (m : FlatModel) : Type 0 where
  pub closed : IsClosed m
  pub typed : IsTyped m
  pub symbols : AreSymbols m.symbols
  pub types : Each (λ x. IsListedType m.symbols x.declared) m.variables
  pub at_first : Each (λ f. reads_input m f.value ≡ false) m.at_first
  pub at_each : Each (λ f. reads_input m f.value ≡ false) m.at_each
  pub at_step : Each (λ f. reads_next_input m f.value ≡ false) m.at_step

-- a top event fits a model: it is TRUE or FALSE, breaks no rule, names what the model has, and reads no input
pub record IsFitTop (m : FlatModel) (top : Tree FlatLeaf) : Type 0 where
  pub own : ReadsOwn m top
  pub no_input : reads_input m top ≡ false
  pub right : broken_condition (judged_in m false top) ≡ []

-- the number is that of a boolean of the state, as a history bit is
pub record IsStateBoolean (m : FlatModel) (i : ℕ) : Type 0 where
  pub variable : FlatVariable
  pub is_variable : slice_get m.variables i ≡ Some variable
  pub is_boolean : variable.declared ≡ boolean
  pub is_state : is_input variable.role ≡ false
