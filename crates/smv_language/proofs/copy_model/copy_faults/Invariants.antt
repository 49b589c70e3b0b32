-- What is made so far is what was read so far.
use Rattle.std.proofs.Common.{◌≡◌, take}
use Rattle.smv_language.proofs.copy_model.copy_faults.Given as goal

abbrev pub invariant-loop-fault : goal.invariant-loop-fault
invariant-loop-fault l = l.made ≡ take l.fault-index l.faults
