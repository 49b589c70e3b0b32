use Rattle.std.proofs.Common.{◌≡◌, map, take}
use Rattle.fault_instructions.specs.Instructions.{instruction_tree}
use Rattle.fault_extend.specs.WovenFaults.{fault_tree, faults_at}
use Rattle.fault_extend.proofs.faults.woven_faults.Given as goal

abbrev pub invariant-loop-instance : goal.invariant-loop-instance
invariant-loop-instance l = map fault_tree l.faults ≡ faults_at (instruction_tree l.i) (take l.instance-index l.instances)
