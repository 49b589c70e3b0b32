-- Values as the code has them, read as those of a flat model.
use Rattle.std.specs.Prelude.{List, [], map, slice_index_or}
use Rattle.smv_language.specs.ProgramTree.{Text}
use Rattle.smv_language.specs.Values.{Value as Told, truth, number, symbol}
use Rattle.base_values.specs.declared.value.Value.{Value}
use Rattle.base_values.specs.declared.value.Value.TheVariants.{Bool, Num, Sym}
use Rattle.cut_search_laws.specs.FoundSets.{Found}

-- a symbol by its number
abbrev pub value_of : List Text → Value → Told
value_of symbols (Bool b) = truth b
value_of symbols (Num n) = number n
value_of symbols (Sym i) = symbol (slice_index_or symbols i [])

-- a value for each variable
abbrev pub values_of : List Text → List Value → List Told
values_of symbols v = map (value_of symbols) v

-- the moments of a trace
abbrev pub trace_of : List Text → List (List Value) → List (List Told)
trace_of symbols trace = map (values_of symbols) trace

-- a found set with its trace
abbrev pub found_of : List Text → Found (List (List Value)) → Found (List (List Told))
found_of symbols f = record { set = f.set; trace = trace_of symbols f.trace }

-- each found set with its trace
abbrev pub all_found : List Text → List (Found (List (List Value))) → List (Found (List (List Told)))
all_found symbols fs = map (found_of symbols) fs
