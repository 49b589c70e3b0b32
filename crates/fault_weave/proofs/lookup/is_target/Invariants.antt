use Rattle.std.proofs.Common.{◌≡◌, drop, map}
use Rattle.fault_instructions.specs.Instructions.{slice_tree, is_target}
use Rattle.fault_weave.proofs.lookup.is_target.Given as goal

abbrev pub invariant-loop-slice : goal.invariant-loop-slice
invariant-loop-slice l = is_target (map slice_tree (drop l.slice-index l.slices)) l.x ≡ is_target (map slice_tree l.slices) l.x
