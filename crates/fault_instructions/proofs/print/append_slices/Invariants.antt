use Rattle.std.proofs.Common.{◌≡◌, ◌++◌, drop, map}
use Rattle.fault_instructions.specs.Instructions.{slice_tree}
use Rattle.smv_language.specs.Text.{all_of}
use Rattle.fault_instructions.specs.InstructionText.{slice_text}
use Rattle.fault_instructions.proofs.print.append_slices.Given as goal

abbrev pub invariant-loop-slice : goal.invariant-loop-slice
invariant-loop-slice l =
    l.text ++ all_of (map slice_text (map slice_tree (drop l.slice-index l.slices))) ≡ l.initial.text ++ all_of (map slice_text (map slice_tree l.slices))
