use Rattle.std.proofs.Common.{◌≡◌, ◌++◌}
use Rattle.cut_report.proofs.TextLaws.{lines_from}
use Rattle.cut_report.proofs.traces.append_values.Given as goal

abbrev pub invariant-loop-i : goal.invariant-loop-i
invariant-loop-i l = l.text ++ lines_from l.m.symbols l.m.variables l.moment l.i ≡ l.initial.text ++ lines_from l.m.symbols l.m.variables l.moment 0
