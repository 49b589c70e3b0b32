use Rattle.std.proofs.Common.{◌≡◌, ◌++◌, drop, map}
use Rattle.xsap_reports.specs.Changes.{is_listed}
use Rattle.xsap_reports.specs.Reports.{names_in, set_names}
use Rattle.xsap_reports.proofs.changes.listed_in.Given as goal

abbrev pub invariant-loop-set : goal.invariant-loop-set
invariant-loop-set l =
    l.listed.items ++ map (is_listed (set_names l.other)) (map (λ set. names_in l.report.faults.items set.items) (drop l.set-index l.report.sets.items))
    ≡ map (is_listed (set_names l.other)) (set_names l.report)
