use Rattle.std.proofs.Common.{◌≡◌, take}
use Rattle.base_values.proofs.value.Items+Valuation.copy.Given as goal

abbrev pub invariant-loop-moment : goal.invariant-loop-moment
invariant-loop-moment l = l.moments ≡ take l.moment-index l.moment-items
