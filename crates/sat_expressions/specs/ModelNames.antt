-- The names of a model as the code has them.
use Rattle.std.specs.Prelude.{◌≡◌}
use Rattle.smv_language.specs.Language.{Each, FlatLeaf, FlatModel, model_tree}
use Rattle.sat_circuits.specs.Circuit.{Circuit}
use Rattle.sat_encoding_laws.specs.Widths.{symbol_width}
use Rattle.sat_encoding_laws.specs.Expressions.{Names as TheNames}
use Rattle.sat_encoding_laws.specs.Lists.{Copy, names_of}
use Rattle.sat_encoding_laws.specs.Meanings.{IsSignal}
use Rattle.sat_expressions.specs.BuiltSignals.{signals_of}
use Rattle.sat_expressions.specs.declared.names.Copied.{Copied}
use Rattle.sat_expressions.specs.declared.names.NamedSignals.{NamedSignals}

-- the copy of a model's variables and definitions
abbrev pub copy_of : Copied → Copy
copy_of c = record { variables = signals_of c.variables; definitions = signals_of c.definitions }

-- the model of these names
abbrev pub model_of : NamedSignals → FlatModel
model_of n = model_tree n.model.now.model

-- the names as the definitions of encoding have them
abbrev pub names_in : NamedSignals → TheNames FlatLeaf
names_in n = names_of (model_of n) (copy_of n.current.now) (copy_of n.next.now)

-- each signal of a copy may be used
pub record IsCopied (s : Circuit) (c : Copied) : Type 0 where
  pub variables : Each (IsSignal s) (signals_of c.variables)
  pub definitions : Each (IsSignal s) (signals_of c.definitions)

-- each name's signal may be used, and a symbol has the width of the model's
pub record IsNamed (s : Circuit) (n : NamedSignals) : Type 0 where
  pub now : IsCopied s n.current.now
  pub next : IsCopied s n.next.now
  pub symbols : n.symbols ≡ symbol_width (model_of n).symbols

-- Under `next` a name is what it is at the next moment.
abbrev pub moved : NamedSignals → NamedSignals
moved n = record { model = n.model; current = n.next; next = n.next; symbols = n.symbols }
