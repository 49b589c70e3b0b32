use Rattle.std.proofs.Common.{◌≡◌, take}
use Rattle.base_values.proofs.value.Items+Items+Valuation.copy.Given as goal

abbrev pub invariant-loop-trace : goal.invariant-loop-trace
invariant-loop-trace l = l.traces ≡ take l.trace-index l.trace-items
