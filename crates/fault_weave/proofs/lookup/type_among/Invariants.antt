use Rattle.std.proofs.Common.{◌≡◌, drop, map}
use Rattle.smv_language.specs.Language.{section_tree, kind_in_sections}
use Rattle.fault_instructions.specs.KindTypes.{type_of_kind}
use Rattle.fault_weave.proofs.lookup.type_among.Given as goal

abbrev pub invariant-loop-section : goal.invariant-loop-section
invariant-loop-section l =
    type_of_kind (kind_in_sections (map section_tree (drop l.section-index l.sections)) l.x) ≡ type_of_kind (kind_in_sections (map section_tree l.sections) l.x)
