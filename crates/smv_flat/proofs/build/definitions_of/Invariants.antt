-- The definitions so far are those of the order so far, and each uses those before it.
use Rattle.std.proofs.Common.{◌≡◌, true, map, take, length}
use Rattle.smv_scope.specs.ClosedModels.{are_earlier}
use Rattle.smv_flat.specs.FormulaLists.{told, asked_definition}
use Rattle.smv_flat.proofs.build.definitions_of.Given as goal

abbrev pub invariant-loop-place : goal.invariant-loop-place
invariant-loop-place l = record {
  told : map told l.made ≡ map (asked_definition l.scope.scene l.scope.needs) (take l.place-index l.scope.needs.order.items);
  many : length l.made ≡ l.place-index;
  earlier : are_earlier l.variables l.symbols 0 l.made ≡ true;
}
