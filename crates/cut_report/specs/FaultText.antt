-- The lines of faults in a report.
use Rattle.std.specs.Prelude.{ℕ, ◌+◌, List, [], ◌∷◌, ◌++◌, length, codes}
use Rattle.std.specs.Fmt.{decimal}
use Rattle.smv_language.specs.Language.{Text, Path, dotted_text}

-- a fault's line: its number and its name
abbrev pub fault_line : ℕ → Path → Text
fault_line n name = codes "fault " ++ (decimal n ++ (codes " " ++ (dotted_text name ++ codes "\n")))

-- a line for each fault, numbered from this number on
abbrev pub fault_lines : ℕ → List Path → Text
fault_lines n [] = []
fault_lines n (name ∷ names) = fault_line n name ++ fault_lines (n + 1) names

-- the number of the faults, and a line for each, numbered from 1
abbrev pub faults_text : List Path → Text
faults_text names = codes "faults " ++ (decimal (length names) ++ (codes "\n" ++ fault_lines 1 names))
