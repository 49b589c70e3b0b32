-- What is left of the faults makes the whole of what stands so far.
use Rattle.std.proofs.Common.{◌≡◌, ◌+◌, ◌-◌}
use Rattle.smv_language.specs.ModelTree.{flat_tree}
use Rattle.fault_orders.specs.Stage.{with_set}
use Rattle.fault_orders.proofs.expression.with_set.Given as goal

abbrev pub invariant-loop-k : goal.invariant-loop-k
invariant-loop-k l = with_set (l.bit + l.k) (1 + l.k) (l.faults - l.k) l.set (flat_tree l.made) ≡ with_set l.bit 1 l.faults l.set (flat_tree l.top)
