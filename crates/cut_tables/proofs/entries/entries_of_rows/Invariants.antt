use Rattle.std.proofs.Common.{◌≡◌, ◌++◌, drop, map}
use Rattle.cut_tables.specs.Tables.{entry_of}
use Rattle.cut_tables.specs.Columns.{told_entry, told_column}
use Rattle.cut_tables.proofs.entries.entries_of_rows.Given as goal

abbrev pub invariant-loop-row : goal.invariant-loop-row
invariant-loop-row l =
    map (map told_entry) l.entries ++ map (λ row. map (entry_of row) (map told_column l.columns)) (drop l.row-index l.rows)
    ≡ map (λ row. map (entry_of row) (map told_column l.columns)) l.rows
