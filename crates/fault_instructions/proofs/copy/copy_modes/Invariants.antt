use Rattle.std.proofs.Common.{◌≡◌, map, take}
use Rattle.fault_instructions.specs.Instructions.{mode_tree}
use Rattle.fault_instructions.proofs.copy.copy_modes.Given as goal

abbrev pub invariant-loop-mode : goal.invariant-loop-mode
invariant-loop-mode l = map mode_tree l.made ≡ map mode_tree (take l.mode-index l.modes)
