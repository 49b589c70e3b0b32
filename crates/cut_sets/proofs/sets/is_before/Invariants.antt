-- what is left decides as the whole does
use Rattle.std.proofs.Common.{◌≡◌, drop}
use Rattle.cut_right_laws.specs.Sets.{is_before_in_order}
use Rattle.cut_sets.proofs.sets.is_before.Given as goal

abbrev pub invariant-loop-k : goal.invariant-loop-k
invariant-loop-k l = is_before_in_order (drop l.k l.set) (drop l.k l.other) ≡ is_before_in_order l.set l.other
