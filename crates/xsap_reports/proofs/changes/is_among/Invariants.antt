use Rattle.std.proofs.Common.{◌≡◌, drop}
use Rattle.xsap_reports.specs.Changes.{is_among}
use Rattle.xsap_reports.specs.Reports.{names_in}
use Rattle.xsap_reports.proofs.changes.is_among.Given as goal

abbrev pub invariant-loop-number : goal.invariant-loop-number
invariant-loop-number l = is_among (names_in l.faults (drop l.number-index l.set)) l.name ≡ is_among (names_in l.faults l.set) l.name
