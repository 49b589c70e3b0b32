-- Marks of numbers: none where there is no such number.
use Rattle.std.specs.Prelude.{Bool, false, Option, Some, None}

-- the mark is there and set
abbrev pub is_set : Option Bool → Bool
is_set None = false
is_set (Some b) = b
