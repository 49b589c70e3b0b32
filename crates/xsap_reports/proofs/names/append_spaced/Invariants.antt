use Rattle.std.proofs.Common.{◌≡◌, ◌++◌, drop}
use Rattle.xsap_reports.specs.Csv.{spaced}
use Rattle.xsap_reports.specs.Reports.{names_in}
use Rattle.xsap_reports.proofs.names.append_spaced.Given as goal

abbrev pub invariant-loop-number : goal.invariant-loop-number
invariant-loop-number l = l.text ++ spaced (names_in l.names (drop l.number-index l.numbers)) ≡ l.initial.text ++ spaced (names_in l.names l.numbers)
