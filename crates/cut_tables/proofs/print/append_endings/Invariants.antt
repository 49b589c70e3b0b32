use Rattle.std.proofs.Common.{◌≡◌, ◌++◌, ◌+◌, drop, map}
use Rattle.cut_tables.specs.Columns.{ending_lines}
use Rattle.cut_text_laws.specs.Analysis.{told_ending}
use Rattle.cut_tables.proofs.print.append_endings.Given as goal

abbrev pub invariant-loop-i : goal.invariant-loop-i
invariant-loop-i l = l.text ++ ending_lines l.bits (l.i + 1) (map told_ending (drop l.i l.endings)) ≡ l.initial.text ++ ending_lines l.bits 1 (map told_ending l.endings)
