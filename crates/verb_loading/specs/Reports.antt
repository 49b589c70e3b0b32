-- What is said once an extension is written.
use Rattle.std.specs.Prelude.{ℕ, ◌+◌, List, [], ◌∷◌, ◌++◌, length, reverse, codes}
use Rattle.std.specs.Fmt.{decimal}
use Rattle.smv_language.specs.Language.{Text, Path, Place}
use Rattle.fault_weave.specs.Faults.{Fault}

-- each part with a dot after it
abbrev pub parts_text : Path → Text
parts_text [] = []
parts_text (x ∷ xs) = (x ++ codes ".") ++ parts_text xs

-- an instance by its path from `main`, which has none; a place has the innermost name first
abbrev pub place_text : Place → Text
place_text at = parts_text (reverse at)

-- a fault's name: its path, slice and mode, with dots between
abbrev pub name_text : Fault → Text
name_text fault = place_text fault.place ++ (fault.slice ++ (codes "." ++ fault.mode))

-- a fault's line: its number and its name
abbrev pub fault_line : ℕ → Fault → Text
fault_line n fault = codes "fault " ++ (decimal n ++ (codes " " ++ (name_text fault ++ codes "\n")))

-- a line for each fault, numbered from this number on
abbrev pub fault_lines : ℕ → List Fault → Text
fault_lines n [] = []
fault_lines n (fault ∷ faults) = fault_line n fault ++ fault_lines (n + 1) faults

-- the number of the faults, the faults, and that the extension is written
abbrev pub report_text : List Fault → Text
report_text faults = codes "faults " ++ (decimal (length faults) ++ (codes "\n" ++ (fault_lines 1 faults ++ codes "extended\n")))
