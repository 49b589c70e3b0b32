-- The values of a model's variables and definitions at a moment, by their numbers.
use Rattle.std.specs.Prelude.{List}
use Rattle.base_values.specs.declared.value.Value.{Value}

-- the entries of a table, by the numbers of variables and of definitions
pub record Entries : Type 0 where
  pub variables : List Value
  pub definitions : List Value
