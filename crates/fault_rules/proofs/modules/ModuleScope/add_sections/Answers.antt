use Rattle.std.proofs.Common.{arith, ◌<◌, length, map}
use Rattle.std.specs.Prelude.{flat_map}
use Rattle.smv_language.specs.ProgramTree.{section_tree}
use Rattle.fault_rules.specs.KeyedLists.{with_entries}
use Rattle.fault_rules.specs.Locals.{section_locals, locals_in}
use Rattle.fault_rules.proofs.KeyedLaws.{entries_next}
use Rattle.fault_rules.proofs.modules.ModuleScope.add_sections.Goals as goal

pub loop-section-preserved : goal.loop-section-preserved
loop-section-preserved c =
    let below : c.loop-section.section-index < length c.args.sections.now = omega arith in
    entries_next section_locals section_tree (locals_in c.loop-section.self) (locals_in c.add_section.new.self) (with_entries (locals_in c.args.self.now) (flat_map section_locals (map section_tree c.args.sections.now))) c.args.sections.now
    c.loop-section.section-index c.section-item.result below c.section-item.is c.in_ok-add_section.ensures c.loop-section.invariant
