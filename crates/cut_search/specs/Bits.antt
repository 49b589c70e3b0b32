-- History bits and cut moments, over values as the code has them.
use Rattle.std.specs.Prelude.{ℕ, Bool, false, List, Option, Some, slice_get}
use Rattle.std.specs.List.{range_with_len}
use Rattle.base_values.specs.declared.value.Value.{Value}
use Rattle.base_values.specs.declared.value.Value.TheVariants as value
use Rattle.sat_encoding_laws.specs.FlatTraces.{numbers_where}

-- the value is TRUE
abbrev pub is_set : Option Value → Bool
is_set (Some (value.Bool b)) = b
is_set _ = false

-- the variable of the number is TRUE
abbrev pub is_set_at : List Value → ℕ → Bool
is_set_at v n = is_set (slice_get v n)

-- the numbers, from one on, of the bits that are TRUE: so many from the first one's variable on
abbrev pub bits_set : List Value → ℕ → ℕ → List ℕ
bits_set v first count = numbers_where (is_set_at v) 1 (range_with_len first count)
