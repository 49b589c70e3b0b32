-- Columns and tables of the code, as the definitions of analyses and tables see them.
use Rattle.std.specs.Prelude.{◌≡◌, ◌<◌, ◌≤◌, ℕ, suc, true, List, [], ◌∷◌, ◌++◌, All, Option, Some, None, slice_get, codes, length, map}
use Rattle.std.specs.Fmt.{decimal}
use Rattle.smv_language.specs.ProgramTree.{Text}
use Rattle.cut_text_laws.specs.Analysis.{Ending, Analysis, told_ending}
use Rattle.cut_text_laws.specs.AnalysisText.{numbers_text, ending_text}
use Rattle.cut_tables.specs.Tables.{Entry, yes, no, unknown, entry_of, rows_of, entries_text}
use Rattle.cut_tables.specs.declared.columns.TableEntry.{TableEntry as Entered}
use Rattle.cut_tables.specs.declared.columns.TableEntry.TheVariants as entered
use Rattle.cut_tables.specs.declared.columns.Column.{Column}
use Rattle.cut_tables.specs.declared.columns.FmeaTable.{FmeaTable}

-- the code's entry as the definitions see it
abbrev pub told_entry : Entered → Entry
told_entry entered.Yes = yes
told_entry entered.No = no
told_entry entered.Unknown = unknown

-- a column as an analysis of which only the sets and the ending are told
abbrev pub told_column : Column → Analysis
told_column c = record { sets = c.sets; shown = []; first = true; ending = told_ending c.ending }

-- the column's sets name only faults of which there are so many
abbrev pub NamesFaults : ℕ → Column → Type 0
NamesFaults faults c = All (All (λ i. (0 < i) × (i ≤ faults))) c.sets

-- the analyses have the sets and endings of the columns
abbrev pub AreTold : List Analysis → List Column → Type 0
AreTold found columns = (map (λ a. a.sets) found ≡ map (λ c. c.sets) columns)
    × (map (λ a. a.ending) found ≡ map (λ c. told_ending c.ending) columns)

-- The table of these analyses: rows of at most so many faults, an entry for each of them and each column, and the endings.
pub record IsTableOf (faults size : ℕ) (columns : List Analysis) (t : FmeaTable) : Type 0 where
  pub rows : t.rows ≡ rows_of size faults
  pub entries : map (map told_entry) t.entries ≡ map (λ row. map (entry_of row) columns) (rows_of size faults)
  pub endings : map told_ending t.endings ≡ map (λ a. a.ending) columns

-- the line of how the column of a number ends
abbrev pub ending_line : ℕ → ℕ → Ending → Text
ending_line bits n e = codes "top " ++ (decimal n ++ (codes " " ++ (ending_text e bits ++ codes "\n")))

-- the lines of how columns end, numbered from this one on
abbrev pub ending_lines : ℕ → ℕ → List Ending → Text
ending_lines bits n [] = []
ending_lines bits n (e ∷ es) = ending_line bits n e ++ ending_lines bits (suc n) es

-- the line of a row with its entries
abbrev pub entry_line : List ℕ → List Entry → Text
entry_line row es = codes "row" ++ (numbers_text row ++ (codes " :" ++ (entries_text es ++ codes "\n")))

-- and a line for each row that has entries
abbrev pub entry_lines : List (List ℕ) → List (List Entry) → Text
entry_lines [] entries = []
entry_lines (row ∷ rows) [] = []
entry_lines (row ∷ rows) (es ∷ entries) = entry_line row es ++ entry_lines rows entries

-- the line of a row, where the place has entries
abbrev pub line_of : List ℕ → Option (List Entry) → Text
line_of row None = []
line_of row (Some es) = entry_line row es

-- the line of a row, with the entries of a place
abbrev pub line_at : List ℕ → List (List Entry) → ℕ → Text
line_at row entries i = line_of row (slice_get entries i)

-- the text of a table
abbrev pub printed_table : Text → ℕ → FmeaTable → Text
printed_table fault_lines bits t =
    fault_lines ++ (codes "tops "
    ++ (decimal (length t.endings)
    ++ (codes "\n" ++ (ending_lines bits 1 (map told_ending t.endings) ++ entry_lines t.rows (map (map told_entry) t.entries)))))
