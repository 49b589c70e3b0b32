-- The formals of the instances so far are answered.
use Rattle.std.proofs.Common.{ℕ, ◌<◌}
use Rattle.smv_scope.specs.KnownFormals.{rows, IsSameButFormals}
use Rattle.smv_scope.specs.WaitingLookUps.{IsReady, IsRowAnswered}
use Rattle.smv_scope.proofs.names.Scene.answer_formals.Given as goal

abbrev pub invariant-loop-spot : goal.invariant-loop-spot
invariant-loop-spot l = record {
  same : IsSameButFormals l.initial.self l.self;
  ready : IsReady l.self;
  answered : (k : ℕ) → k < l.spot → IsRowAnswered (rows l.self) k;
}
