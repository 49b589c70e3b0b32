use Rattle.std.proofs.Common.{arith, ◌<◌, length, map}
use Rattle.std.specs.Prelude.{flat_map}
use Rattle.smv_language.specs.ProgramTree.{decl_tree}
use Rattle.fault_rules.specs.KeyedLists.{with_texts}
use Rattle.fault_rules.specs.Names.{decl_names}
use Rattle.fault_rules.proofs.KeyedLaws.{texts_next}
use Rattle.fault_rules.proofs.names.add_decls.Goals as goal

pub loop-decl-preserved : goal.loop-decl-preserved
loop-decl-preserved c =
    let below : c.loop-decl.decl-index < length c.args.decls.now = omega arith in
    texts_next decl_names decl_tree c.loop-decl.names c.add_decl.new.names (with_texts c.args.names.now (flat_map decl_names (map decl_tree c.args.decls.now))) c.args.decls.now c.loop-decl.decl-index c.decl-item.result below c.decl-item.is
    c.in_ok-add_decl.ensures c.loop-decl.invariant
