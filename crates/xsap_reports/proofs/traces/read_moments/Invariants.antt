use Rattle.std.proofs.Common.{length, All}
use Rattle.xsap_reports.specs.Reports.{IsMomentOfWords}
use Rattle.xsap_reports.proofs.traces.read_moments.Given as goal

abbrev pub invariant-loop-after : goal.invariant-loop-after
invariant-loop-after l = All IsMomentOfWords l.moments.items

abbrev pub decreases-loop-after : goal.decreases-loop-after
decreases-loop-after l = length l.rest
