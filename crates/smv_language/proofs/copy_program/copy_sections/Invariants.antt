use Rattle.std.proofs.Common.{◌≡◌, map, take}
use Rattle.smv_language.specs.ProgramTree.{section_tree}
use Rattle.smv_language.proofs.copy_program.copy_sections.Given as goal

abbrev pub invariant-loop-section : goal.invariant-loop-section
invariant-loop-section l = map section_tree l.made ≡ map section_tree (take l.section-index l.sections)
