use Rattle.std.proofs.Common.{◌≡◌, drop}
use Rattle.xsap_reports.specs.Changes.{is_within}
use Rattle.xsap_reports.specs.Reports.{names_in}
use Rattle.xsap_reports.proofs.changes.is_within.Given as goal

abbrev pub invariant-loop-number : goal.invariant-loop-number
invariant-loop-number l =
    is_within (names_in l.others l.other) (names_in l.faults (drop l.number-index l.set)) ≡ is_within (names_in l.others l.other) (names_in l.faults l.set)
