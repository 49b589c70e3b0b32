-- What is known of values as the code has it, and the widths that follow.
use Rattle.std.specs.Prelude.{ℕ, ◌-◌, ℤ, pos, false, Option, Some, None}
use Rattle.smv_language.specs.declared.expr.Op.{Op}
use Rattle.smv_type_laws.specs.ExpressionKinds.{joined}
use Rattle.smv_types.specs.Rows.{row_literal, row_negative, row_binary}
use Rattle.smv_types.specs.declared.sort.JudgedExpr.{JudgedExpr}
use Rattle.smv_type_laws.specs.Intervals.{Interval}
use Rattle.sat_encoding_laws.specs.Widths.{word_width}
use Rattle.smv_types.specs.declared.sort.Sort.{Sort}
use Rattle.smv_types.specs.declared.sort.Class.{Class}
use Rattle.smv_types.specs.declared.sort.Class.TheVariants.{Number}

-- the bits of the word of any of so many symbols
abbrev pub symbols_width : ℕ → ℕ
symbols_width n = word_width (record { lo = pos 0; hi = pos (n - 1) })

-- the width of a number of a known interval, or that of the symbols
abbrev pub width_of_sort : ℕ → Class → Option Interval → ℕ
width_of_sort symbols Number (Some i) = word_width i
width_of_sort symbols _ i = symbols

-- the width of a word with such values
abbrev pub sort_width : ℕ → Sort → ℕ
sort_width symbols s = width_of_sort symbols s.class s.interval

-- a value that breaks no rule
abbrev pub kept_sort : Sort → JudgedExpr
kept_sort s = record { sort = s; is_set = false; broken = None }

-- what is known of a written number
abbrev pub literal_sort : ℤ → Sort
literal_sort n = (row_literal n).sort

-- of a number with the other sign
abbrev pub negative_sort : Sort → Sort
negative_sort a = (row_negative (kept_sort a)).sort

-- of what an operator gives
abbrev pub operation_sort : Op → Sort → Sort → Sort
operation_sort o a b = (row_binary false o (kept_sort a) (kept_sort b)).sort

-- of one of two values of a class
abbrev pub joined_sort : Sort → Sort → Sort
joined_sort a b = record { class = a.class; interval = joined a.interval b.interval }
