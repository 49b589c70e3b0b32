-- Where the history bits of a model with history are.
use Rattle.std.specs.Prelude.{◌≡◌, ◌+◌, ◌<◌, false, List, Some, length, slice_get}
use Rattle.smv_language.specs.Language.{Each, FlatVariable, FlatModel}
use Rattle.smv_flat_laws.specs.History.{Mode, with_history}
use Rattle.smv_type_laws.specs.Costs.{state_bits}
use Rattle.smv_type_laws.specs.ExpressionKinds.{symbol_class}
use Rattle.smv_type_laws.specs.DeclaredKinds.{judged_declared}
use Rattle.smv_type_laws.specs.Models.{is_too_large, IsTyped}
use Rattle.smv_type_laws.specs.Laws.{IsClosed}
use Rattle.sat_encoding_laws.specs.FlatTraces.{history_of}
use Rattle.sat_encoding_laws.specs.Inputs.{is_input}
use Rattle.sat_encoding_laws.specs.Layout.{literals_from}
use Rattle.sat_encoding_laws.specs.Lists.{history_literals}
use Rattle.sat_encoding_laws.specs.Encodable.{IsEncodable, IsStateBoolean}

-- History bits are booleans of the state, and their literals now are the last of the state's.
abbrev pub HistoryBitsAreLast : Type 0
HistoryBitsAreLast =
    (m : FlatModel) (fs : List Mode) →
    Each (IsStateBoolean (with_history m fs)) (history_of m fs)
    × (state_bits (with_history m fs) ≡ state_bits m + length fs)
    × (history_literals (with_history m fs) (history_of m fs) ≡ literals_from (length fs) (state_bits m + 2))

-- a mode stands in a variable of the state, by a symbol of the model
pub record IsStateMode (m : FlatModel) (f : Mode) : Type 0 where
  pub variable : FlatVariable
  pub is_variable : slice_get m.variables f.variable ≡ Some variable
  pub is_state : is_input variable.role ≡ false
  pub is_symbol : f.symbol < length m.symbols

-- A model with history is encodable where the model is, and it is typed.
abbrev pub HistoryKeepsEncodable : Type 0
HistoryKeepsEncodable = (m : FlatModel) (fs : List Mode) → IsEncodable m → Each (IsStateMode m) fs → IsTyped (with_history m fs) →
    IsEncodable (with_history m fs)

-- a mode stands in a variable that has symbols
pub record IsSymbolMode (m : FlatModel) (f : Mode) : Type 0 where
  pub variable : FlatVariable
  pub is_variable : slice_get m.variables f.variable ≡ Some variable
  pub has_symbols : (judged_declared variable.declared).kind.class ≡ symbol_class

-- A model with history is typed where the model is, and history makes it not too large.
abbrev pub HistoryKeepsTyped : Type 0
HistoryKeepsTyped =
    (m : FlatModel) (fs : List Mode) → IsClosed m → IsTyped m → Each (IsSymbolMode m) fs → is_too_large (with_history m fs) ≡ false →
    IsTyped (with_history m fs)
