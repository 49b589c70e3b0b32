use Rattle.std.proofs.Common.{◌≡◌, ◌+◌, ◌≤◌, drop}
use Rattle.fault_rules.specs.CountLimits.{instances_of}
use Rattle.fault_rules.specs.FaultCounts.{module_names}
use Rattle.fault_rules.proofs.count.instances_of.Given as goal

abbrev pub invariant-loop-instance : goal.invariant-loop-instance
invariant-loop-instance l = record {
  rest : l.many + instances_of (module_names (drop l.instance-index l.instances)) l.«module» ≡ instances_of (module_names l.instances) l.«module»;
  most : l.many ≤ l.instance-index;
}
