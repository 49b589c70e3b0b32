-- The report of an analysis.
use Rattle.std.specs.Prelude.{ℕ, suc, nat_lt, Bool, true, false, List, [], ◌∷◌, ◌++◌, codes, length, if◌then◌else◌}
use Rattle.std.specs.Fmt.{decimal}
use Rattle.smv_language.specs.Language.{Text, Value, FlatModel}
use Rattle.cut_text_laws.specs.Analysis.{Ending, complete, bounded, Analysis}
use Rattle.cut_text_laws.specs.TraceText.{trace_text}

-- each number after a space
abbrev pub numbers_text : List ℕ → Text
numbers_text [] = []
numbers_text (n ∷ ns) = codes " " ++ (decimal n ++ numbers_text ns)

-- a line for each set
abbrev pub set_lines : List (List ℕ) → Text
set_lines [] = []
set_lines (s ∷ ss) = codes "set" ++ (numbers_text s ++ (codes "\n" ++ set_lines ss))

-- each trace under its number, from this one on
abbrev pub trace_parts : FlatModel → ℕ → List (List (List Value)) → Text
trace_parts flat n [] = []
trace_parts flat n (t ∷ ts) = codes "trace " ++ (decimal n ++ (codes "\n" ++ (trace_text flat t ++ trace_parts flat (suc n) ts)))

-- that there is no trace, where there is none
abbrev pub first_line : Bool → Text
first_line true = []
first_line false = codes "no first moment\n"

-- how it ends: for all traces, or for those of so many steps over so many state bits
abbrev pub ending_text : Ending → ℕ → Text
ending_text complete bits = codes "complete"
ending_text (bounded k) bits = codes "bounded " ++ (decimal k ++ (codes " bits " ++ decimal bits))

-- the size, where it is less than the number of faults
abbrev pub size_line : ℕ → ℕ → Text
size_line size faults = if nat_lt size faults then codes "size " ++ (decimal size ++ codes "\n") else []

-- the report after the lines of the faults, of which there are so many
abbrev pub analysis_text : Text → FlatModel → ℕ → ℕ → ℕ → Analysis → Text
analysis_text fault_lines flat bits faults size a =
    fault_lines
    ++ (codes "sets " ++ (decimal (length a.sets) ++ (codes "\n" ++ (set_lines a.sets
    ++ (trace_parts flat 1 a.shown
    ++ (first_line a.first
    ++ (ending_text a.ending bits ++ (codes "\n" ++ size_line size faults))))))))
