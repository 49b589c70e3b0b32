-- The text of a trace of a flat model: for each moment its number, and each variable's value in flat order.
use Rattle.std.specs.Prelude.{ℕ, suc, List, [], ◌∷◌, ◌++◌, codes, reverse}
use Rattle.smv_language.specs.Language.{Text, dotted_text, Value, value_text, FlatVariable, FlatModel}
use Rattle.cut_text_laws.specs.Lines.{Line, spaced, counted, fed}

-- a variable's name from `main`, with dots between; a place has the innermost name first
abbrev pub variable_text : FlatVariable → Text
variable_text x = dotted_text (reverse (x.name ∷ x.place))

-- the line that begins a moment
abbrev pub moment_line : ℕ → Line
moment_line n = counted (codes "moment") n

-- a word, ` = ` and a word
abbrev pub equation : Line → Line → Line
equation name value = spaced (name ∷ codes "=" ∷ value ∷ [])

-- the line of a variable's value
abbrev pub value_line : FlatVariable → Value → Line
value_line x v = equation (variable_text x) (value_text v)

-- a line for each variable, in order
abbrev pub value_lines : List FlatVariable → List Value → List Line
value_lines (x ∷ xs) (v ∷ vs) = value_line x v ∷ value_lines xs vs
value_lines _ _ = []

-- the moments, numbered from this one on
abbrev pub trace_lines : FlatModel → ℕ → List (List Value) → List Line
trace_lines m n [] = []
trace_lines m n (v ∷ vs) = moment_line n ∷ (value_lines m.variables v ++ trace_lines m (suc n) vs)

-- the text of a trace
abbrev pub trace_text : FlatModel → List (List Value) → Text
trace_text m trace = fed (trace_lines m 0 trace)
