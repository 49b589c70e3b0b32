-- The formulas so far, with those of the items that are left, are all.
use Rattle.std.proofs.Common.{◌≡◌, ◌++◌, true, map, drop}
use Rattle.smv_scope.specs.ClosedModels.{are_closed}
use Rattle.smv_scope.specs.SceneTree.{program_of, items_at}
use Rattle.smv_flat.specs.FormulaLists.{told, conditions_asked, asked_items}
use Rattle.smv_flat.proofs.build.add_of_instance.Given as goal

abbrev pub invariant-loop-place : goal.invariant-loop-place
invariant-loop-place l = record {
  told : map told l.list ++ asked_items l.scope.scene l.scope.needs (conditions_asked l.asked) l.spot (drop l.place (items_at (program_of l.scope.scene) l.spot))
      ≡ map told l.initial.list ++ asked_items l.scope.scene l.scope.needs (conditions_asked l.asked) l.spot (items_at (program_of l.scope.scene) l.spot);
  closed : are_closed l.bounds l.list ≡ true;
}
