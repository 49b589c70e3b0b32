use Rattle.std.proofs.Common.{◌≡◌, ◌++◌}
use Rattle.cut_tables.proofs.TextLaws.{lines_left}
use Rattle.cut_tables.proofs.print.append_rows.Given as goal

abbrev pub invariant-loop-i : goal.invariant-loop-i
invariant-loop-i l = l.text ++ lines_left l.rows l.entries l.i ≡ l.initial.text ++ lines_left l.rows l.entries 0
