use Rattle.std.proofs.Common.{◌≤◌, length, All}
use Rattle.xsap_reports.specs.Reports.{HasWords}
use Rattle.xsap_reports.proofs.traces.read_moment.Given as goal

abbrev pub invariant-loop-line : goal.invariant-loop-line
invariant-loop-line l = (length l.rest ≤ length l.bytes) × All HasWords l.lines.items

abbrev pub decreases-loop-line : goal.decreases-loop-line
decreases-loop-line l = length l.rest
