use Rattle.std.proofs.Common.{◌≡◌, take}
use Rattle.fault_extend.proofs.list.is_same.Given as goal

abbrev pub invariant-loop-i : goal.invariant-loop-i
invariant-loop-i l = take l.i l.x ≡ take l.i l.y
