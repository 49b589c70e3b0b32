use Rattle.std.proofs.Common.{◌≡◌, drop, map}
use Rattle.fault_instructions.specs.Instructions.{extension_tree, slices_from, is_target}
use Rattle.fault_weave.proofs.lookup.any_affects.Given as goal

abbrev pub invariant-loop-extension : goal.invariant-loop-extension
invariant-loop-extension l =
    is_target (slices_from (map extension_tree (drop l.extension-index l.extensions)) l.owner) l.x ≡ is_target (slices_from (map extension_tree l.extensions) l.owner) l.x
