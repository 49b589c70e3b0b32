-- The items so far, with those that are left, are all.
use Rattle.std.proofs.Common.{◌≡◌, map, drop}
use Rattle.smv_language.specs.ProgramTree.{assignment_tree}
use Rattle.smv_flat_laws.specs.Items.{an_assignment}
use Rattle.smv_scope.specs.ItemTree.{counted_of, with_items}
use Rattle.smv_scope.proofs.items.ItemList.add_assignments.Given as goal

abbrev pub invariant-loop-assignment : goal.invariant-loop-assignment
invariant-loop-assignment l = with_items (counted_of l.self) (map an_assignment (map assignment_tree (drop l.assignment-index l.assignments))) ≡ with_items (counted_of l.initial.self) (map an_assignment (map assignment_tree l.assignments))
