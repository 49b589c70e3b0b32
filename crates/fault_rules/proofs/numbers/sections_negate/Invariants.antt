use Rattle.std.proofs.Common.{◌≡◌, map, drop}
use Rattle.std.specs.List.{list_all}
use Rattle.smv_language.specs.ProgramTree.{section_tree}
use Rattle.fault_rules.specs.Negations.{section_negates}
use Rattle.fault_rules.proofs.numbers.sections_negate.Given as goal

abbrev pub invariant-loop-section : goal.invariant-loop-section
invariant-loop-section l = list_all section_negates (map section_tree (drop l.section-index l.sections)) ≡ list_all section_negates (map section_tree l.sections)
