-- Tables of failure modes and effects: their rows, what they say of each, and their text.
use Rattle.std.specs.Prelude.{ℕ, zero, suc, List, [], ◌∷◌, ◌++◌, map, codes, length, if◌then◌else◌}
use Rattle.std.specs.Fmt.{decimal}
use Rattle.std.specs.List.{list_any, range_with_len}
use Rattle.smv_language.specs.ProgramTree.{Text}
use Rattle.cut_right_laws.specs.Sets.{is_contained}
use Rattle.cut_text_laws.specs.Analysis.{Ending, complete, bounded, Analysis}
use Rattle.cut_text_laws.specs.AnalysisText.{numbers_text, ending_text}

-- what a table says of a row and a column
pub data Entry : Type 0 where
  yes : Entry
  no : Entry
  unknown : Entry

-- where no listed set lies within the row, the ending decides
abbrev pub absent_entry : Ending → Entry
absent_entry complete = no
absent_entry (bounded k) = unknown

-- yes where some listed set of the column lies within the row
abbrev pub entry_of : List ℕ → Analysis → Entry
entry_of row column = if list_any (λ set. is_contained set row) column.sets then yes else absent_entry column.ending

-- the pairs of a fault with each of so many after it
abbrev pub pairs_after : ℕ → ℕ → List (List ℕ)
pairs_after i n = map (λ j. i ∷ j ∷ []) (range_with_len (suc i) n)

-- each pair of so many faults, numbered from this one on
abbrev pub pairs_from : ℕ → ℕ → List (List ℕ)
pairs_from i zero = []
pairs_from i (suc n) = pairs_after i n ++ pairs_from (suc i) n

-- the rows of at most so many faults: none, each fault, and each pair, in the order of sets
abbrev pub rows_of : ℕ → ℕ → List (List ℕ)
rows_of zero faults = [] ∷ []
rows_of (suc zero) faults = [] ∷ map (λ i. i ∷ []) (range_with_len 1 faults)
rows_of (suc (suc more)) faults = [] ∷ map (λ i. i ∷ []) (range_with_len 1 faults) ++ pairs_from 1 faults

-- the text of an entry, after a space
abbrev pub entry_text : Entry → Text
entry_text yes = codes " yes"
entry_text no = codes " no"
entry_text unknown = codes " unknown"

-- the text of the entries of a row
abbrev pub entries_text : List Entry → Text
entries_text [] = []
entries_text (e ∷ es) = entry_text e ++ entries_text es

-- how each column ends, numbered from this one on
abbrev pub column_lines : ℕ → ℕ → List Analysis → Text
column_lines bits n [] = []
column_lines bits n (a ∷ as') =
    codes "top " ++ (decimal n ++ (codes " " ++ (ending_text a.ending bits ++ (codes "\n" ++ column_lines bits (suc n) as'))))

-- a line for each row
abbrev pub row_lines : List (List ℕ) → List Analysis → Text
row_lines [] columns = []
row_lines (row ∷ rows) columns =
    codes "row" ++ (numbers_text row
    ++ (codes " :" ++ (entries_text (map (entry_of row) columns) ++ (codes "\n" ++ row_lines rows columns))))

-- the table after the lines of the faults, of which there are so many
abbrev pub table_text : Text → ℕ → ℕ → ℕ → List Analysis → Text
table_text fault_lines bits faults size columns =
    fault_lines ++ (codes "tops "
    ++ (decimal (length columns) ++ (codes "\n" ++ (column_lines bits 1 columns ++ row_lines (rows_of size faults) columns))))
