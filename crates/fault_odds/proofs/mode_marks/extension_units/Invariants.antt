use Rattle.std.proofs.Common.{◌≡◌, map, drop}
use Rattle.fault_instructions.specs.Instructions.{extension_tree}
use Rattle.fault_odds.specs.FirstMark.{extension_units}
use Rattle.fault_odds.proofs.mode_marks.extension_units.Given as goal

abbrev pub invariant-loop-extension : goal.invariant-loop-extension
invariant-loop-extension l = extension_units l.slice l.mode (map extension_tree (drop l.extension-index l.extensions)) ≡ extension_units l.slice l.mode (map extension_tree l.extensions)
