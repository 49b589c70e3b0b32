-- Values by number as definitions see them: a symbol by its name.
use Rattle.std.specs.Prelude.{List, map, slice_get}
use Rattle.smv_language.specs.ProgramTree.{Text}
use Rattle.smv_language.specs.Values.{Value, truth, number, symbol}
use Rattle.base_values.specs.declared.value.Value.{Value as Numbered}
use Rattle.base_values.specs.declared.value.Value.TheVariants.{Bool as ABool, Num, Sym}
use Rattle.smv_language.specs.Texts.{text_or_none}

-- a value; a number beyond the last symbol names none
abbrev pub told_value : List Text → Numbered → Value
told_value symbols (ABool b) = truth b
told_value symbols (Num n) = number n
told_value symbols (Sym i) = symbol (text_or_none (slice_get symbols i))

-- the values of a moment
abbrev pub told_moment : List Text → List Numbered → List Value
told_moment symbols v = map (told_value symbols) v

-- the moments of a trace
abbrev pub told_trace : List Text → List (List Numbered) → List (List Value)
told_trace symbols trace = map (told_moment symbols) trace
