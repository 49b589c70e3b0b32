use Rattle.std.proofs.Common.{◌≡◌, length, All}
use Rattle.xsap_reports.specs.Reports.{IsTraceOfWords}
use Rattle.xsap_reports.proofs.traces.read_traces.Given as goal

abbrev pub invariant-loop-i : goal.invariant-loop-i
invariant-loop-i l = (length l.traces.items ≡ l.i) × All IsTraceOfWords l.traces.items
