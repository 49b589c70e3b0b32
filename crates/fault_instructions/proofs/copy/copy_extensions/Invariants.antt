use Rattle.std.proofs.Common.{◌≡◌, map, take}
use Rattle.fault_instructions.specs.Instructions.{extension_tree}
use Rattle.fault_instructions.proofs.copy.copy_extensions.Given as goal

abbrev pub invariant-loop-extension : goal.invariant-loop-extension
invariant-loop-extension l = map extension_tree l.made ≡ map extension_tree (take l.extension-index l.extensions)
