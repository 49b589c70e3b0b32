-- The items so far, with those that are left, are all.
use Rattle.std.proofs.Common.{◌≡◌, map, drop}
use Rattle.smv_language.specs.ProgramTree.{define_tree}
use Rattle.smv_flat_laws.specs.Items.{a_definition}
use Rattle.smv_scope.specs.ItemTree.{counted_of, with_items}
use Rattle.smv_scope.proofs.items.ItemList.add_defines.Given as goal

abbrev pub invariant-loop-define : goal.invariant-loop-define
invariant-loop-define l = with_items (counted_of l.self) (map a_definition (map define_tree (drop l.define-index l.defines))) ≡ with_items (counted_of l.initial.self) (map a_definition (map define_tree l.defines))
