-- The items so far, with those of the sections that are left, are all.
use Rattle.std.proofs.Common.{◌≡◌, [], map, drop}
use Rattle.std.specs.List.{flat_map}
use Rattle.smv_language.specs.ProgramTree.{section_tree}
use Rattle.smv_flat_laws.specs.Items.{items_of_section}
use Rattle.smv_scope.specs.ItemTree.{counted_of, with_items}
use Rattle.smv_scope.proofs.items.ItemList.of_module.Given as goal

abbrev pub invariant-loop-section : goal.invariant-loop-section
invariant-loop-section l =
    with_items (counted_of l.list) (flat_map items_of_section (map section_tree (drop l.section-index l.module.sections)))
    ≡ with_items (record { items = []; last = l.header }) (flat_map items_of_section (map section_tree l.module.sections))
