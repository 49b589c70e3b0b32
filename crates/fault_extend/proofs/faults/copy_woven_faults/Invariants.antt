use Rattle.std.proofs.Common.{◌≡◌, take}
use Rattle.fault_extend.proofs.faults.copy_woven_faults.Given as goal

abbrev pub invariant-loop-fault : goal.invariant-loop-fault
invariant-loop-fault l = l.made ≡ take l.fault-index l.faults
