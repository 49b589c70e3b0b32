use Rattle.std.proofs.Common.{◌≡◌, map, drop}
use Rattle.fault_instructions.specs.Instructions.{slice_tree}
use Rattle.fault_rules.specs.FaultCounts.{counted_slices}
use Rattle.fault_rules.proofs.count.count_slices.Given as goal

abbrev pub invariant-loop-slice : goal.invariant-loop-slice
invariant-loop-slice l = counted_slices l.instances (map slice_tree (drop l.slice-index l.slices)) l.counted ≡ counted_slices l.instances (map slice_tree l.slices) l.initial.counted
