use Rattle.std.proofs.Common.{◌≡◌, take}
use Rattle.fault_rules.specs.FaultCounts.{module_names}
use Rattle.fault_extend.specs.FirstRefusal.{modules_in}
use Rattle.fault_extend.proofs.weaving.modules_of.Given as goal

abbrev pub invariant-loop-instance : goal.invariant-loop-instance
invariant-loop-instance l = module_names l.modules.items ≡ modules_in (take l.instance-index l.instances)
