use Rattle.std.proofs.Common.{◌≡◌, map, drop}
use Rattle.fault_instructions.specs.Instructions.{mode_tree}
use Rattle.fault_rules.specs.FaultCounts.{counted_modes}
use Rattle.fault_rules.proofs.count.count_modes.Given as goal

abbrev pub invariant-loop-place : goal.invariant-loop-place
invariant-loop-place l = counted_modes l.instances l.place (map mode_tree (drop l.place l.modes)) l.counted ≡ counted_modes l.instances 0 (map mode_tree l.modes) l.initial.counted
