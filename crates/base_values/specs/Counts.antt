-- Counts of calls, which stop at the end of a 64-bit number.
use Rattle.std.specs.Prelude.{ℕ, ◌+◌, ◌-◌, ◌^◌, min}

-- one more, but no more than a number of 64 bits can hold: next_count 4 is 5
abbrev pub next_count : ℕ → ℕ
next_count n = min (n + 1) (2 ^ 64 - 1)
