use Rattle.std.proofs.Common.{arith, ◌<◌, length, map}
use Rattle.std.specs.Prelude.{flat_map}
use Rattle.smv_language.specs.ProgramTree.{section_tree}
use Rattle.fault_rules.specs.KeyedLists.{with_texts}
use Rattle.fault_rules.specs.Names.{section_names}
use Rattle.fault_rules.proofs.KeyedLaws.{texts_next}
use Rattle.fault_rules.proofs.names.add_sections.Goals as goal

pub loop-section-preserved : goal.loop-section-preserved
loop-section-preserved c =
    let below : c.loop-section.section-index < length c.args.sections.now = omega arith in
    texts_next section_names section_tree c.loop-section.names c.add_section.new.names (with_texts c.args.names.now (flat_map section_names (map section_tree c.args.sections.now))) c.args.sections.now c.loop-section.section-index c.section-item.result below c.section-item.is
    c.in_ok-add_section.ensures c.loop-section.invariant
