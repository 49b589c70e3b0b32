-- The numbers so far are those of faults.
use Rattle.std.proofs.Common.{take}
use Rattle.sat_encoding_laws.specs.FlatTraces.{IsNumbered}
use Rattle.verb_orders.proofs.pair.judge_set.Given as goal

abbrev pub invariant-loop-k : goal.invariant-loop-k
invariant-loop-k l = IsNumbered l.faults (take l.k l.set)
