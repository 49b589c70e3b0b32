use Rattle.std.proofs.Common.{arith, ◌<◌, length, map}
use Rattle.std.specs.Prelude.{flat_map}
use Rattle.smv_language.specs.ProgramTree.{module_tree}
use Rattle.fault_rules.specs.KeyedLists.{with_texts}
use Rattle.fault_rules.specs.Names.{module_names}
use Rattle.fault_rules.proofs.KeyedLaws.{texts_next}
use Rattle.fault_rules.proofs.names.add_modules.Goals as goal

pub loop-module-preserved : goal.loop-module-preserved
loop-module-preserved c =
    let below : c.loop-module.module-index < length c.args.modules.now = omega arith in
    texts_next module_names module_tree c.loop-module.names c.add_module.new.names (with_texts c.args.names.now (flat_map module_names (map module_tree c.args.modules.now))) c.args.modules.now c.loop-module.module-index c.module-item.result below c.module-item.is
    c.in_ok-add_module.ensures c.loop-module.invariant
