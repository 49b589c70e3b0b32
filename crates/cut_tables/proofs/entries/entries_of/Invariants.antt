use Rattle.std.proofs.Common.{◌≡◌, ◌++◌, drop, map}
use Rattle.cut_tables.specs.Tables.{entry_of}
use Rattle.cut_tables.specs.Columns.{told_entry, told_column}
use Rattle.cut_tables.proofs.entries.entries_of.Given as goal

abbrev pub invariant-loop-column : goal.invariant-loop-column
invariant-loop-column l = map told_entry l.entries ++ map (entry_of l.row) (map told_column (drop l.column-index l.columns)) ≡ map (entry_of l.row) (map told_column l.columns)
