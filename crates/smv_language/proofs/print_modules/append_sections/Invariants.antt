use Rattle.std.proofs.Common.{◌≡◌, ◌++◌, drop, map}
use Rattle.smv_language.specs.ProgramTree.{section_tree}
use Rattle.smv_language.specs.Text.{all_of, section_text}
use Rattle.smv_language.proofs.print_modules.append_sections.Given as goal

abbrev pub invariant-loop-section : goal.invariant-loop-section
invariant-loop-section l =
    l.text ++ all_of (map section_text (map section_tree (drop l.section-index l.sections))) ≡ l.initial.text ++ all_of (map section_text (map section_tree l.sections))
