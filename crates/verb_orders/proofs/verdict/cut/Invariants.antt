-- The first values of the moments so far.
use Rattle.std.proofs.Common.{◌≡◌, map, take}
use Rattle.verb_orders.proofs.verdict.cut.Given as goal

abbrev pub invariant-loop-moment : goal.invariant-loop-moment
invariant-loop-moment l = l.cut ≡ map (take l.variables) (take l.moment-index l.moment-items)
