-- What the code answers for what definitions say.
use Rattle.std.specs.Prelude.{ℤ, ◌≤ℤ◌, Option, Some, None, if◌then◌else◌}
use Rattle.base_values.specs.declared.limits.TheConstants.{LEAST_NUMBER, GREATEST_NUMBER}
use Rattle.smv_type_laws.specs.Intervals.{Interval, fits}

-- an interval that ends within 32 bits
abbrev pub fitting : Interval → Option Interval
fitting i = if fits i then Some i else None

-- a number within 32 bits
abbrev pub IsSmall : ℤ → Type 0
IsSmall n = (LEAST_NUMBER ≤ℤ n) × (n ≤ℤ GREATEST_NUMBER)
