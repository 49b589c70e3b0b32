use Rattle.std.proofs.Common.{◌≡◌, ◌++◌, drop, map}
use Rattle.cut_tables.specs.Tables.{entries_text}
use Rattle.cut_tables.specs.Columns.{told_entry}
use Rattle.cut_tables.proofs.print.append_entries.Given as goal

abbrev pub invariant-loop-entry : goal.invariant-loop-entry
invariant-loop-entry l = l.text ++ entries_text (map told_entry (drop l.entry-index l.entries)) ≡ l.initial.text ++ entries_text (map told_entry l.entries)
