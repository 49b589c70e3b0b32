use Rattle.std.proofs.Common.{◌≡◌, map, drop}
use Rattle.std.specs.List.{list_all}
use Rattle.smv_language.specs.ProgramTree.{module_tree}
use Rattle.fault_rules.specs.Negations.{module_negates}
use Rattle.fault_rules.proofs.numbers.modules_negate.Given as goal

abbrev pub invariant-loop-module : goal.invariant-loop-module
invariant-loop-module l = list_all module_negates (map module_tree (drop l.module-index l.modules)) ≡ list_all module_negates (map module_tree l.modules)
