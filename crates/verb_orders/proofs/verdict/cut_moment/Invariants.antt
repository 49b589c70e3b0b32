-- The values so far.
use Rattle.std.proofs.Common.{◌≡◌, take}
use Rattle.verb_orders.proofs.verdict.cut_moment.Given as goal

abbrev pub invariant-loop-i : goal.invariant-loop-i
invariant-loop-i l = l.cut ≡ take l.i l.moment
