-- The formulas so far, with those of the instances that are left, are all.
use Rattle.std.proofs.Common.{◌≡◌, ◌++◌, true, map, drop}
use Rattle.smv_flat_laws.specs.Items.{instances_of}
use Rattle.smv_scope.specs.ClosedModels.{are_closed}
use Rattle.smv_scope.specs.SceneTree.{program_of}
use Rattle.smv_flat.specs.FormulaLists.{told, conditions_asked, asked_from}
use Rattle.smv_flat.proofs.build.add_formulas.Given as goal

abbrev pub invariant-loop-spot : goal.invariant-loop-spot
invariant-loop-spot l = record {
  told : map told l.list ++ asked_from l.scope.scene l.scope.needs (conditions_asked l.asked) l.spot (drop l.spot (instances_of (program_of l.scope.scene)))
      ≡ map told l.initial.list ++ asked_from l.scope.scene l.scope.needs (conditions_asked l.asked) 0 (instances_of (program_of l.scope.scene));
  closed : are_closed l.bounds l.list ≡ true;
}
