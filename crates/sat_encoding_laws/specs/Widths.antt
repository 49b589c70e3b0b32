-- How many bits the words of numbers and symbols have.
use Rattle.std.specs.Prelude.{ℕ, suc, ◌-◌, ℤ, pos, negsuc, max, Option, Some, List, length}
use Rattle.smv_language.specs.ProgramTree.{Text}
use Rattle.smv_type_laws.specs.Intervals.{Interval}
use Rattle.smv_type_laws.specs.ExpressionKinds.{Class, number_class, Kind}
use Rattle.smv_type_laws.specs.Costs.{digits_of}

-- the digits of a number, where those of one below 0 are all turned over
abbrev pub digits_beside_sign : ℤ → ℕ
digits_beside_sign (pos n) = digits_of n
digits_beside_sign (negsuc n) = digits_of n

-- the bits of a word that holds every number of the interval: the digits of its ends, and a sign
abbrev pub word_width : Interval → ℕ
word_width i = suc (max (digits_beside_sign i.lo) (digits_beside_sign i.hi))

-- the numbers of the symbols, from 0 to the last
abbrev pub symbol_interval : List Text → Interval
symbol_interval symbols = record { lo = pos 0; hi = pos (length symbols - 1) }

-- the bits of the word of any symbol
abbrev pub symbol_width : List Text → ℕ
symbol_width symbols = word_width (symbol_interval symbols)

-- the width of a number of a known interval, or that of the symbols
abbrev pub width_by : List Text → Class → Option Interval → ℕ
width_by symbols number_class (Some i) = word_width i
width_by symbols _ i = symbol_width symbols

-- the bits of the word of an expression of this kind
abbrev pub kind_width : List Text → Kind → ℕ
kind_width symbols k = width_by symbols k.class k.interval
