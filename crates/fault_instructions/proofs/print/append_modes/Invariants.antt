use Rattle.std.proofs.Common.{◌≡◌, ◌++◌, drop, map}
use Rattle.fault_instructions.specs.Instructions.{mode_tree}
use Rattle.smv_language.specs.Text.{all_of}
use Rattle.fault_instructions.specs.InstructionText.{mode_line}
use Rattle.fault_instructions.proofs.print.append_modes.Given as goal

abbrev pub invariant-loop-mode : goal.invariant-loop-mode
invariant-loop-mode l =
    l.text ++ all_of (map mode_line (map mode_tree (drop l.mode-index l.modes))) ≡ l.initial.text ++ all_of (map mode_line (map mode_tree l.modes))
