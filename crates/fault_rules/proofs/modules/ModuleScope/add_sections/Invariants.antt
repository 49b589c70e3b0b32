use Rattle.std.proofs.Common.{◌≡◌, map, drop}
use Rattle.std.specs.Prelude.{flat_map}
use Rattle.smv_language.specs.ProgramTree.{section_tree}
use Rattle.fault_rules.specs.KeyedLists.{with_entries}
use Rattle.fault_rules.specs.Locals.{section_locals, locals_in}
use Rattle.fault_rules.proofs.modules.ModuleScope.add_sections.Given as goal

abbrev pub invariant-loop-section : goal.invariant-loop-section
invariant-loop-section l = with_entries (locals_in l.self) (flat_map section_locals (map section_tree (drop l.section-index l.sections))) ≡ with_entries (locals_in l.initial.self) (flat_map section_locals (map section_tree l.sections))
