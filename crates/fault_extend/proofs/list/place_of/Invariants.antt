use Rattle.fault_extend.specs.NumberedFaults.{IsThere}
use Rattle.fault_extend.proofs.list.place_of.Given as goal

abbrev pub invariant-loop-place : goal.invariant-loop-place
invariant-loop-place l = IsThere l.variables l.place l.path
