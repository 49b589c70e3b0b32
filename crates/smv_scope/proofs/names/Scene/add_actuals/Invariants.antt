-- The actuals so far have their numbers.
use Rattle.std.proofs.Common.{map}
use Rattle.smv_language.specs.ExpressionTree.{tree_of}
use Rattle.smv_scope.specs.NumberedScenes.{IsSameProgram}
use Rattle.smv_scope.proofs.NamingItems.{NamedActuals}
use Rattle.smv_scope.proofs.names.Scene.add_actuals.Given as goal

abbrev pub invariant-loop-formal : goal.invariant-loop-formal
invariant-loop-formal l = record {
  same : IsSameProgram l.initial.self l.self;
  named : NamedActuals l.initial.self l.self l.spot l.item l.inner (map tree_of l.actuals) l.formal;
}
