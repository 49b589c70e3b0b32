use Rattle.std.proofs.Common.{◌≡◌, drop, map}
use Rattle.xsap_reports.specs.Changes.{is_listed}
use Rattle.xsap_reports.specs.Reports.{names_in, set_names}
use Rattle.xsap_reports.proofs.changes.is_listed.Given as goal

abbrev pub invariant-loop-other : goal.invariant-loop-other
invariant-loop-other l =
    is_listed (map (λ set. names_in l.report.faults.items set.items) (drop l.other-index l.report.sets.items)) (names_in l.faults l.set)
    ≡ is_listed (set_names l.report) (names_in l.faults l.set)
