-- The instances so far have their formals.
use Rattle.std.proofs.Common.{◌≡◌}
use Rattle.smv_scope.specs.KnownFormals.{rows, unknown_to, IsSameButFormals}
use Rattle.smv_scope.proofs.names.Scene.add_formals.Given as goal

abbrev pub invariant-loop-spot : goal.invariant-loop-spot
invariant-loop-spot l = record {
  same : IsSameButFormals l.initial.self l.self;
  unknown : rows l.self ≡ unknown_to l.initial.self l.spot;
}
