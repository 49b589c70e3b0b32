use Rattle.std.proofs.Common.{◌≡◌, map, drop}
use Rattle.std.specs.Prelude.{flat_map}
use Rattle.smv_language.specs.ProgramTree.{section_tree}
use Rattle.fault_rules.specs.KeyedLists.{with_texts}
use Rattle.fault_rules.specs.Names.{section_names}
use Rattle.fault_rules.proofs.names.add_sections.Given as goal

abbrev pub invariant-loop-section : goal.invariant-loop-section
invariant-loop-section l = with_texts l.names (flat_map section_names (map section_tree (drop l.section-index l.sections))) ≡ with_texts l.initial.names (flat_map section_names (map section_tree l.sections))
