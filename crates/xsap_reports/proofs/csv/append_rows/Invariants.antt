use Rattle.std.proofs.Common.{◌≡◌, ◌++◌, ◌+◌, drop, map}
use Rattle.xsap_reports.specs.Csv.{rows}
use Rattle.xsap_reports.specs.Reports.{names_in}
use Rattle.xsap_reports.proofs.csv.append_rows.Given as goal

abbrev pub invariant-loop-i : goal.invariant-loop-i
invariant-loop-i l = l.text ++ rows (l.i + 1) (map (λ set. names_in l.names set.items) (drop l.i l.sets)) ≡ l.initial.text ++ rows 1 (map (λ set. names_in l.names set.items) l.sets)
