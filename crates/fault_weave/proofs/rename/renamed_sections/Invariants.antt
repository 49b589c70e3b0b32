use Rattle.std.proofs.Common.{◌≡◌, map, take}
use Rattle.smv_language.specs.ProgramTree.{section_tree}
use Rattle.fault_instructions.specs.Instructions.{instruction_tree, is_affected}
use Rattle.fault_weave.specs.WovenProgram.{woven_section}
use Rattle.fault_weave.proofs.rename.renamed_sections.Given as goal

abbrev pub invariant-loop-section : goal.invariant-loop-section
invariant-loop-section l = map section_tree l.made ≡ map (woven_section (is_affected (instruction_tree l.i) l.owner)) (map section_tree (take l.section-index l.sections))
