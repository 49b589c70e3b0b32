use Rattle.std.proofs.Common.{◌≡◌, take, length}
use Rattle.smv_evaluation.proofs.table.write_variables.Given as goal

abbrev pub invariant-loop-i : goal.invariant-loop-i
invariant-loop-i l = (take l.i l.into ≡ take l.i l.v) × (length l.into ≡ length l.v)
