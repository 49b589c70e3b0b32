use Rattle.std.proofs.Common.{◌≡◌, map, drop}
use Rattle.std.specs.Prelude.{flat_map}
use Rattle.smv_language.specs.ProgramTree.{module_tree}
use Rattle.fault_rules.specs.KeyedLists.{with_texts}
use Rattle.fault_rules.specs.Names.{module_names}
use Rattle.fault_rules.proofs.names.add_modules.Given as goal

abbrev pub invariant-loop-module : goal.invariant-loop-module
invariant-loop-module l = with_texts l.names (flat_map module_names (map module_tree (drop l.module-index l.modules))) ≡ with_texts l.initial.names (flat_map module_names (map module_tree l.modules))
