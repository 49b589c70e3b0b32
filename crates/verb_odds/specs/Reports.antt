-- The lines of sets and of how an analysis ends.
use Rattle.std.specs.Prelude.{ℕ, List, ◌++◌, codes, length}
use Rattle.std.specs.Fmt.{decimal}
use Rattle.smv_language.specs.ProgramTree.{Text}
use Rattle.cut_text_laws.specs.Analysis.{Ending}
use Rattle.cut_text_laws.specs.AnalysisText.{set_lines, ending_text}

-- the number of the sets, and a line for each
abbrev pub sets_text : List (List ℕ) → Text
sets_text sets = codes "sets " ++ (decimal (length sets) ++ (codes "\n" ++ set_lines sets))

-- how it ends, with a line feed
abbrev pub ending_line : Ending → ℕ → Text
ending_line ending bits = ending_text ending bits ++ codes "\n"
