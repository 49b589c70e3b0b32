use Rattle.std.proofs.Common.{◌≡◌, ◌++◌, drop}
use Rattle.cut_report.specs.TraceReading.{values_of}
use Rattle.cut_report.proofs.reading.valuation_of.Given as goal

abbrev pub invariant-loop-slot : goal.invariant-loop-slot
invariant-loop-slot l = l.valuation ++ values_of (drop l.slot-index l.slots) ≡ values_of l.slots
