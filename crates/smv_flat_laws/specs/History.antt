-- A flat model with one more boolean for each fault, which is TRUE from the moment on at which the fault's mode stands.
use Rattle.std.specs.Prelude.{ℕ, suc, List, [], ◌∷◌, ◌++◌, codes, decimal, length}
use Rattle.smv_language.specs.declared.expr.Op.TheVariants as op
use Rattle.smv_language.specs.Language.{Tree, leaf, next_of, binary, Text, boolean, state, FlatLeaf, flat_variable, flat_symbol}
use Rattle.smv_language.specs.Language.{FlatVariable, FlatFormula, FlatModel}

-- a mode, by the number of its variable and that of the symbol that it has while the mode stands
pub record Mode : Type 0 where
  pub variable : ℕ
  pub symbol : ℕ

-- the mode stands now
abbrev pub stands_now : Mode → Tree FlatLeaf
stands_now f = binary op.Equal (leaf (flat_variable f.variable)) (leaf (flat_symbol f.symbol))

-- the mode stands at the next moment
abbrev pub stands_next : Mode → Tree FlatLeaf
stands_next f = binary op.Equal (next_of (leaf (flat_variable f.variable))) (leaf (flat_symbol f.symbol))

-- the name of the bit of a fault, by the fault's number from 1 on
abbrev pub bit_name : ℕ → Text
bit_name i = codes "failed#" ++ decimal i

-- the bit of a fault: a boolean state variable of `main` that no item declares
abbrev pub bit_variable : ℕ → FlatVariable
bit_variable i = record { place = []; name = bit_name i; role = state; declared = boolean; item = 0; number = 0 }

-- a formula that no item has
abbrev pub added : Tree FlatLeaf → FlatFormula
added value = record { value = value; item = 0; number = 0 }

-- at first the bit is TRUE where the mode stands
abbrev pub bit_at_first : ℕ → Mode → FlatFormula
bit_at_first bit f = added (binary op.Within (leaf (flat_variable bit)) (stands_now f))

-- at the next moment the bit is TRUE where it was or where the mode then stands
abbrev pub bit_at_step : ℕ → Mode → FlatFormula
bit_at_step bit f = added (binary op.Within (next_of (leaf (flat_variable bit))) (binary op.Or (leaf (flat_variable bit)) (stands_next f)))

-- the bits of faults whose numbers go on from one
abbrev pub bit_variables : ℕ → List Mode → List FlatVariable
bit_variables i [] = []
bit_variables i (f ∷ fs) = bit_variable (suc i) ∷ bit_variables (suc i) fs

-- for each fault what its bit is at first; the variables go on from a number
abbrev pub bits_at_first : ℕ → List Mode → List FlatFormula
bits_at_first bit [] = []
bits_at_first bit (f ∷ fs) = bit_at_first bit f ∷ bits_at_first (suc bit) fs

-- for each fault how its bit goes on
abbrev pub bits_at_step : ℕ → List Mode → List FlatFormula
bits_at_step bit [] = []
bits_at_step bit (f ∷ fs) = bit_at_step bit f ∷ bits_at_step (suc bit) fs

-- the model with a last boolean for each fault, and what is asked of these after all else
abbrev pub with_history : FlatModel → List Mode → FlatModel
with_history m fs =
    record {
      instances = m.instances;
      variables = m.variables ++ bit_variables 0 fs;
      definitions = m.definitions;
      symbols = m.symbols;
      at_first = m.at_first ++ bits_at_first (length m.variables) fs;
      at_each = m.at_each;
      at_step = m.at_step ++ bits_at_step (length m.variables) fs;
    }

-- the model with the bit of one more fault, whose number from 1 on this is
abbrev pub with_bit : ℕ → Mode → FlatModel → FlatModel
with_bit i f m =
    record {
      instances = m.instances;
      variables = m.variables ++ bit_variable i ∷ [];
      definitions = m.definitions;
      symbols = m.symbols;
      at_first = m.at_first ++ bit_at_first (length m.variables) f ∷ [];
      at_each = m.at_each;
      at_step = m.at_step ++ bit_at_step (length m.variables) f ∷ [];
    }
