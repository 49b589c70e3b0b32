-- What an analysis found, by number, as definitions see it.
use Rattle.std.specs.Prelude.{ℕ, Bool, List, map}
use Rattle.smv_language.specs.Language.{Text, Value, told_trace}
use Rattle.base_values.specs.declared.value.Value.{Value as Numbered}
use Rattle.cut_text_laws.specs.Analysis.{Analysis, told_ending}
use Rattle.base_values.specs.declared.ending.Ending.{Ending as CodeEnding}

-- the values of its traces
abbrev pub told_traces : List Text → List (List (List Numbered)) → List (List (List Value))
told_traces symbols traces = map (told_trace symbols) traces

-- its sets, its traces, whether there is a first moment, and how it ends
abbrev pub told_analysis : List Text → List (List ℕ) → List (List (List Numbered)) → Bool → CodeEnding → Analysis
told_analysis symbols sets traces first ending =
    record { sets = sets; shown = told_traces symbols traces; first = first; ending = told_ending ending }
