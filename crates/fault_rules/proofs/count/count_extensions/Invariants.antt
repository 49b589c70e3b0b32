use Rattle.std.proofs.Common.{◌≡◌, map, drop}
use Rattle.fault_instructions.specs.Instructions.{extension_tree}
use Rattle.fault_rules.specs.FaultCounts.{module_names, counted_extensions}
use Rattle.fault_rules.proofs.count.count_extensions.Given as goal

abbrev pub invariant-loop-extension : goal.invariant-loop-extension
invariant-loop-extension l =
    counted_extensions (module_names l.instances) (map extension_tree (drop l.extension-index l.extensions)) l.counted ≡ counted_extensions (module_names l.instances) (map extension_tree l.extensions) l.initial.counted
