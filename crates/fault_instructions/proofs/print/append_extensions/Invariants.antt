use Rattle.std.proofs.Common.{◌≡◌, ◌++◌, drop, map}
use Rattle.fault_instructions.specs.Instructions.{extension_tree}
use Rattle.smv_language.specs.Text.{all_of}
use Rattle.fault_instructions.specs.InstructionText.{extension_text}
use Rattle.fault_instructions.proofs.print.append_extensions.Given as goal

abbrev pub invariant-loop-extension : goal.invariant-loop-extension
invariant-loop-extension l =
    l.text ++ all_of (map extension_text (map extension_tree (drop l.extension-index l.extensions))) ≡ l.initial.text ++ all_of (map extension_text (map extension_tree l.extensions))
