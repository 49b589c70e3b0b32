use Rattle.std.proofs.Common.{◌≡◌, map, drop}
use Rattle.std.specs.List.{list_all}
use Rattle.fault_instructions.specs.Instructions.{extension_tree}
use Rattle.fault_rules.specs.Negations.{extension_negates}
use Rattle.fault_rules.proofs.numbers.extensions_negate.Given as goal

abbrev pub invariant-loop-extension : goal.invariant-loop-extension
invariant-loop-extension l = list_all extension_negates (map extension_tree (drop l.extension-index l.extensions)) ≡ list_all extension_negates (map extension_tree l.extensions)
