use Rattle.std.proofs.Common.{◌≡◌, ◌++◌, drop}
use Rattle.xsap_reports.specs.JsonText.{more_strings}
use Rattle.xsap_reports.specs.Reports.{names_in}
use Rattle.xsap_reports.proofs.json_sets.append_more_names.Given as goal

abbrev pub invariant-loop-number : goal.invariant-loop-number
invariant-loop-number l = l.text ++ more_strings (names_in l.faults (drop l.number-index l.set)) ≡ l.initial.text ++ more_strings (names_in l.faults l.set)
