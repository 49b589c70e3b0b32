-- The formals so far are answered.
use Rattle.std.proofs.Common.{ℕ, ◌<◌}
use Rattle.smv_scope.specs.KnownFormals.{rows, formal_of, IsOpen, IsSameButFormals}
use Rattle.smv_scope.specs.WaitingLookUps.{IsReady, AreSettled}
use Rattle.smv_scope.proofs.names.Scene.answer_row.Given as goal

abbrev pub invariant-loop-formal : goal.invariant-loop-formal
invariant-loop-formal l = record {
  same : IsSameButFormals l.initial.self l.self;
  ready : IsReady l.self;
  settled : AreSettled (rows l.initial.self) (rows l.self);
  answered : (i : ℕ) → i < l.formal → IsOpen (formal_of (rows l.self) l.spot i) → ⊥;
}
