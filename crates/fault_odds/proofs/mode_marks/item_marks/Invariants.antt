use Rattle.std.proofs.Common.{◌≡◌, ◌++◌, map, drop}
use Rattle.std.specs.Prelude.{flat_map}
use Rattle.fault_instructions.specs.Instructions.{extension_tree}
use Rattle.fault_odds.specs.Marks.{extension_marks}
use Rattle.fault_odds.proofs.mode_marks.item_marks.Given as goal

abbrev pub invariant-loop-extension : goal.invariant-loop-extension
invariant-loop-extension l =
    l.marks ++ flat_map extension_marks (map extension_tree (drop l.extension-index l.i.extensions)) ≡ flat_map extension_marks (map extension_tree l.i.extensions)
