-- The items so far have their numbers.
use Rattle.smv_scope.specs.NumberedScenes.{IsSameProgram}
use Rattle.smv_scope.proofs.NamingItems.{NamedItems}
use Rattle.smv_scope.proofs.names.Scene.define_items.Given as goal

abbrev pub invariant-loop-place : goal.invariant-loop-place
invariant-loop-place l = record {
  same : IsSameProgram l.initial.self l.self;
  named : NamedItems l.initial.self l.self l.spot l.place l.own.items;
}
