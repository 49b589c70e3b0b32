use Rattle.std.proofs.Common.{◌≡◌, ◌++◌, drop}
use Rattle.xsap_reports.specs.JsonText.{more_numbers}
use Rattle.xsap_reports.proofs.json_sets.append_more_numbers.Given as goal

abbrev pub invariant-loop-number : goal.invariant-loop-number
invariant-loop-number l = l.text ++ more_numbers (drop l.number-index l.list) ≡ l.initial.text ++ more_numbers l.list
