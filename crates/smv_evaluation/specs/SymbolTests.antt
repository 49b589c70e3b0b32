-- Whether a variable has a symbol, by their numbers.
use Rattle.std.specs.Prelude.{ℕ, ◌<◌, nat_eq, Bool, false, Option, Some, None, List, length, slice_get}
use Rattle.base_values.specs.declared.value.Value.{Value}
use Rattle.base_values.specs.declared.value.Value.TheVariants.{Sym}

-- the value is the symbol of this number
abbrev pub is_symbol : ℕ → Value → Bool
is_symbol symbol (Sym i) = nat_eq i symbol
is_symbol symbol _ = false

-- so of a value that may be missing
abbrev pub is_symbol_there : ℕ → Option Value → Bool
is_symbol_there symbol None = false
is_symbol_there symbol (Some v) = is_symbol symbol v

-- the variable of this number has this symbol as its value
abbrev pub has_symbol : ℕ → ℕ → List Value → Bool
has_symbol variable symbol v = is_symbol_there symbol (slice_get v variable)

-- there is a variable of this number
abbrev pub HasVariable : ℕ → List Value → Type 0
HasVariable variable v = variable < length v
