-- The bits of values: those of a state, and those of the inputs.
use Rattle.std.specs.Prelude.{ℕ, zero, suc, ◌/◌, ◌%◌, ◌==◌, ℤ, pos, negsuc, Bool, true, false, not, List, [], ◌∷◌, ◌++◌, map, if◌then◌else◌}
use Rattle.smv_language.specs.Language.{Text, DeclaredTree, Value, symbol, FlatVariable, FlatModel}
use Rattle.smv_language.specs.Values.{truth, number}
use Rattle.smv_type_laws.specs.Costs.{symbol_number, declared_width}
use Rattle.sat_encoding_laws.specs.Inputs.{is_input}

-- the lowest binary digits of a number, the least significant first
abbrev pub natural_bits : ℕ → ℕ → List Bool
natural_bits zero n = []
natural_bits (suc w) n = (n % 2 == 1) ∷ natural_bits w (n / 2)

-- so many bits in two's complement: those of -1 - n are those of n turned over
abbrev pub number_bits : ℕ → ℤ → List Bool
number_bits w (pos n) = natural_bits w n
number_bits w (negsuc n) = map not (natural_bits w n)

-- a value as a number: FALSE is 0, TRUE is 1, and a symbol its number
abbrev pub value_number : List Text → Value → ℤ
value_number symbols (truth b) = if b then pos 1 else pos 0
value_number symbols (number n) = n
value_number symbols (symbol x) = pos (symbol_number symbols x)

-- the bits of a value of a type
abbrev pub value_bits : List Text → DeclaredTree → Value → List Bool
value_bits symbols d v = number_bits (declared_width symbols d) (value_number symbols v)

-- the bits of the values of variables in flat order, of those that are inputs or of the others
abbrev pub bits_of : List Text → Bool → List FlatVariable → List Value → List Bool
bits_of symbols inputs (x ∷ xs) (v ∷ vs) =
    (if is_input x.role then (if inputs then value_bits symbols x.declared v else []) else
    (if inputs then [] else value_bits symbols x.declared v)) ++ bits_of symbols inputs xs vs
bits_of symbols inputs _ _ = []

-- the bits of the state and frozen variables
abbrev pub state_of : FlatModel → List Value → List Bool
state_of m v = bits_of m.symbols false m.variables v

-- the bits of the inputs
abbrev pub inputs_of : FlatModel → List Value → List Bool
inputs_of m v = bits_of m.symbols true m.variables v
