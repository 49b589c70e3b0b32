-- Text that is appended piece by piece, and the text of a table by its columns.
use Rattle.std.proofs.Common.{◌≡◌, ℕ, zero, suc, ◌+◌, ◌<◌, List, [], ◌∷◌, ◌++◌, length, get_or, drop, refl, sym, ◌∙◌, ap, arith}
use Rattle.std.specs.Prelude.{map, codes}
use Rattle.std.specs.Fmt.{decimal}
use Rattle.std.proofs.lemmas.List.{append_assoc, append-nil, length-map, drop_more}
use Rattle.smv_language.specs.ProgramTree.{Text}
use Rattle.cut_text_laws.specs.Analysis.{Analysis}
use Rattle.cut_text_laws.specs.AnalysisText.{numbers_text, ending_text}
use Rattle.cut_tables.specs.Tables.{entry_of, rows_of, entries_text, column_lines, row_lines, table_text}
use Rattle.cut_tables.specs.Columns.{told_entry, IsTableOf, ending_lines, entry_lines, line_at, printed_table}
use Rattle.cut_text_laws.specs.Analysis.{told_ending}
use Rattle.cut_tables.specs.declared.columns.FmeaTable.{FmeaTable}
use Rattle.cut_tables.specs.declared.columns.TableEntry.{TableEntry as Entered}

pub ruleset text_rules = (append_assoc, append-nil, length-map)

-- a line before a text
line_on : (A D S E F R : Text) → (A ++ (D ++ (S ++ (E ++ F)))) ++ R ≡ A ++ (D ++ (S ++ (E ++ (F ++ R))))
line_on A D S E F R =
    append_assoc A (D ++ (S ++ (E ++ F))) R
    ∙ ap (λ z. A ++ z) (append_assoc D (S ++ (E ++ F)) R ∙ ap (λ z. D ++ z) (append_assoc S (E ++ F) R ∙ ap (λ z. S ++ z) (append_assoc E F R)))

-- the lines of the endings are those of the columns
lines_of_endings : (bits n : ℕ) (columns : List Analysis) → ending_lines bits n (map (λ a. a.ending) columns) ≡ column_lines bits n columns
lines_of_endings bits n [] = refl
lines_of_endings bits n (a ∷ more) =
    line_on (codes "top ") (decimal n) (codes " ") (ending_text a.ending bits) (codes "\n") (ending_lines bits (suc n) (map (λ b. b.ending) more))
    ∙ ap (λ z. codes "top " ++ (decimal n ++ (codes " " ++ (ending_text a.ending bits ++ (codes "\n" ++ z))))) (lines_of_endings bits (suc n) more)

-- the lines of rows with their entries are those of rows and columns
lines_of_rows : (rows : List (List ℕ)) (columns : List Analysis) → entry_lines rows (map (λ row. map (entry_of row) columns) rows) ≡ row_lines rows columns
lines_of_rows [] columns = refl
lines_of_rows (row ∷ rows) columns =
    line_on (codes "row") (numbers_text row) (codes " :") (entries_text (map (entry_of row) columns)) (codes "\n") (entry_lines rows (map (λ r. map (entry_of r) columns) rows))
    ∙ ap (λ z. codes "row" ++ (numbers_text row ++ (codes " :" ++ (entries_text (map (entry_of row) columns) ++ (codes "\n" ++ z))))) (lines_of_rows rows columns)

-- the text of a table of analyses is theirs
pub text_of_table : (fault_lines : Text) (bits faults size : ℕ) (columns : List Analysis) (t : FmeaTable) → IsTableOf faults size columns t → printed_table fault_lines bits t ≡ table_text fault_lines bits faults size columns
text_of_table fault_lines bits faults size columns t is =
    ap (λ z. fault_lines ++ (codes "tops " ++ z)) (counted ∙ lined)
  where
    as_many : length t.endings ≡ length columns
    as_many = sym (length-map t.endings told_ending) ∙ (ap (λ l. length l) is.endings ∙ length-map columns (λ a. a.ending))

    counted : decimal (length t.endings) ++ (codes "\n" ++ (ending_lines bits 1 (map told_ending t.endings) ++ entry_lines t.rows (map (map told_entry) t.entries)))
        ≡ decimal (length columns) ++ (codes "\n" ++ (ending_lines bits 1 (map (λ a. a.ending) columns) ++ entry_lines (rows_of size faults) (map (λ row. map (entry_of row) columns) (rows_of size faults))))
    counted = rw (as_many, is.endings, is.rows, is.entries) refl

    lined : decimal (length columns) ++ (codes "\n" ++ (ending_lines bits 1 (map (λ a. a.ending) columns) ++ entry_lines (rows_of size faults) (map (λ row. map (entry_of row) columns) (rows_of size faults))))
        ≡ decimal (length columns) ++ (codes "\n" ++ (column_lines bits 1 columns ++ row_lines (rows_of size faults) columns))
    lined = rw (lines_of_endings bits 1 columns, lines_of_rows (rows_of size faults) columns) refl

-- the lines of the rows from a place on
abbrev pub lines_left : List (List ℕ) → List (List Entered) → ℕ → Text
lines_left rows entries i = entry_lines (drop i rows) (map (map told_entry) (drop i entries))

no_rows : (rows : List (List ℕ)) → entry_lines rows [] ≡ []
no_rows [] = refl
no_rows (r ∷ rows) = refl

none_past : {A : Type 0} (i : ℕ) → ◌≡◌ {A = List A} (drop i []) []
none_past zero = refl
none_past (suc i) = refl

next_place : (i : ℕ) → suc i + 1 ≡ suc (i + 1)
next_place i = omega arith

-- a row's line, where its place has entries, and those that come after it
line_on_rows : (row : List ℕ) (rows : List (List ℕ)) (entries : List (List Entered)) (i : ℕ) →
    entry_lines (row ∷ rows) (map (map told_entry) (drop i entries)) ≡ line_at row (map (map told_entry) entries) i ++ entry_lines rows (map (map told_entry) (drop (i + 1) entries))
line_on_rows row rows [] zero = sym (no_rows rows)
line_on_rows row rows [] (suc i) = sym (ap (λ es. entry_lines rows (map (map told_entry) es)) (none_past (suc i + 1)) ∙ no_rows rows)
line_on_rows row rows (es ∷ entries) zero = refl
line_on_rows row rows (es ∷ entries) (suc i) =
    line_on_rows row rows entries i
    ∙ ap (λ k. line_at row (map (map told_entry) entries) i ++ entry_lines rows (map (map told_entry) (drop k (es ∷ entries)))) (sym (next_place i))

pub row_on : (rows : List (List ℕ)) (entries : List (List Entered)) (i : ℕ) (row given : List ℕ) (text more whole : Text) → i < length rows → row ≡ get_or rows i row → given ≡ row →
    more ≡ text ++ line_at given (map (map told_entry) entries) i → text ++ lines_left rows entries i ≡ whole → more ++ lines_left rows entries (i + 1) ≡ whole
row_on rows entries i row given text more whole l e same g h =
    let here : drop i rows ≡ row ∷ drop (i + 1) rows = drop_more rows i row l ∙ ap (λ r. r ∷ drop (i + 1) rows) (sym e) in
    let grown : more ≡ text ++ line_at row (map (map told_entry) entries) i = g ∙ ap (λ r. text ++ line_at r (map (map told_entry) entries) i) same in
    ap (λ t. t ++ lines_left rows entries (i + 1)) grown
    ∙ (append_assoc text (line_at row (map (map told_entry) entries) i) (lines_left rows entries (i + 1))
    ∙ (ap (λ t. text ++ t) (sym (ap (λ rs. entry_lines rs (map (map told_entry) (drop i entries))) here ∙ line_on_rows row (drop (i + 1) rows) entries i)) ∙ h))
