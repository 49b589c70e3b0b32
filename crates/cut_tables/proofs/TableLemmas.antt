-- The table of columns is that of all analyses with their sets and endings.
use Rattle.std.proofs.Common.{◌≡◌, ℕ, List, [], ◌∷◌, refl, sym, ◌∙◌, ap}
use Rattle.std.proofs.lemmas.List.{append_assoc, append-nil, map-append}
use Rattle.std.specs.Prelude.{map, if◌then◌else◌}
use Rattle.std.specs.List.{list_any}
use Rattle.cut_right_laws.specs.Sets.{is_contained}
use Rattle.cut_text_laws.specs.Analysis.{Analysis}
use Rattle.cut_tables.specs.Tables.{entry_of, rows_of, absent_entry, yes}
use Rattle.cut_tables.specs.Columns.{told_entry, told_column, AreTold, IsTableOf}
use Rattle.cut_text_laws.specs.Analysis.{told_ending}
use Rattle.cut_tables.specs.declared.columns.Column.{Column}
use Rattle.cut_tables.specs.declared.columns.FmeaTable.{FmeaTable}

heads : {A : Type 0} (x y : A) (xs ys : List A) → x ∷ xs ≡ y ∷ ys → x ≡ y
heads x y xs ys e = cc

tails : {A : Type 0} (x y : A) (xs ys : List A) → x ∷ xs ≡ y ∷ ys → xs ≡ ys
tails x y xs ys e = cc

never_empty : {A : Type 0} (y : A) (ys : List A) → [] ≡ y ∷ ys → ⊥
never_empty y ys e = cc

same_entry : (row : List ℕ) (a : Analysis) (c : Column) → a.sets ≡ c.sets → a.ending ≡ told_ending c.ending → entry_of row a ≡ entry_of row (told_column c)
same_entry row a c e f =
    ap (λ s. if list_any (λ set. is_contained set row) s then yes else absent_entry a.ending) e
    ∙ ap (λ z. if list_any (λ set. is_contained set row) c.sets then yes else absent_entry z) f

same_entries : (row : List ℕ) (found : List Analysis) (columns : List Column) → AreTold found columns → map (entry_of row) found ≡ map (entry_of row) (map told_column columns)
same_entries row [] [] t = refl
same_entries row [] (c ∷ cs) t = absurd (never_empty c.sets (map (λ d. d.sets) cs) t.0)
same_entries row (a ∷ more) [] t = absurd (never_empty a.sets (map (λ b. b.sets) more) (sym t.0))
same_entries row (a ∷ more) (c ∷ cs) t =
    ap (λ z. z ∷ map (entry_of row) more)
    (same_entry row a c (heads a.sets c.sets (map (λ b. b.sets) more) (map (λ d. d.sets) cs) t.0) (heads a.ending (told_ending c.ending) (map (λ b. b.ending) more) (map (λ d. told_ending d.ending) cs) t.1))
    ∙ ap (λ z. entry_of row (told_column c) ∷ z)
    (same_entries row more cs (tails a.sets c.sets (map (λ b. b.sets) more) (map (λ d. d.sets) cs) t.0, tails a.ending (told_ending c.ending) (map (λ b. b.ending) more) (map (λ d. told_ending d.ending) cs) t.1))

same_rows : (rows : List (List ℕ)) (found : List Analysis) (columns : List Column) → AreTold found columns →
    map (λ row. map (entry_of row) (map told_column columns)) rows ≡ map (λ row. map (entry_of row) found) rows
same_rows [] found columns t = refl
same_rows (row ∷ rows) found columns t =
    ap (λ z. z ∷ map (λ r. map (entry_of r) (map told_column columns)) rows) (sym (same_entries row found columns t))
    ∙ ap (λ z. map (entry_of row) found ∷ z) (same_rows rows found columns t)

endings_told : (columns : List Column) → map (λ a. a.ending) (map told_column columns) ≡ map (λ c. told_ending c.ending) columns
endings_told [] = refl
endings_told (c ∷ cs) = ap (λ more. told_ending c.ending ∷ more) (endings_told cs)

pub endings_by_columns : (columns : List Column) → map told_ending (map (λ c. c.ending) columns) ≡ map (λ a. a.ending) (map told_column columns)
endings_by_columns [] = refl
endings_by_columns (c ∷ cs) = ap (λ more. told_ending c.ending ∷ more) (endings_by_columns cs)

-- the table of the columns is that of the analyses
pub told_table : (faults size : ℕ) (columns : List Column) (found : List Analysis) (t : FmeaTable) → IsTableOf faults size (map told_column columns) t → AreTold found columns → IsTableOf faults size found t
told_table faults size columns found t is told = record {
  rows = is.rows;
  entries = is.entries ∙ same_rows (rows_of size faults) found columns told;
  endings = is.endings ∙ (endings_told columns ∙ sym told.1);
}

-- what rows, entries and endings come to is the table
pub table_of : (faults size : ℕ) (columns : List Column) (t : FmeaTable) → t.rows ≡ rows_of size faults → map (map told_entry) t.entries ≡ map (λ row. map (entry_of row) (map told_column columns)) t.rows →
    t.endings ≡ map (λ c. c.ending) columns → IsTableOf faults size (map told_column columns) t
table_of faults size columns t r e f = record {
  rows = r;
  entries = e ∙ ap (λ rs. map (λ row. map (entry_of row) (map told_column columns)) rs) r;
  endings = ap (λ es. map told_ending es) f ∙ endings_by_columns columns;
}

pub ruleset entry_rules = (append_assoc, append-nil, map-append)
