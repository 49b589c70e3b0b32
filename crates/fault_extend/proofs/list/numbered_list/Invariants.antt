use Rattle.std.proofs.Common.{take, drop}
use Rattle.fault_extend.specs.NumberedFaults.{AreNumbered, HaveModes}
use Rattle.fault_extend.proofs.list.numbered_list.Given as goal

abbrev pub invariant-loop-fault : goal.invariant-loop-fault
invariant-loop-fault l = record {
  numbered : AreNumbered l.m (take l.fault-index l.woven) l.faults;
  modes : HaveModes l.m (drop l.fault-index l.woven);
}
