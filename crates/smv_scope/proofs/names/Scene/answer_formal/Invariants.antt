-- Each look-up on the stack waits for the next one, and each turn leaves less to do.
use Rattle.std.proofs.Common.{◌≡◌, true}
use Rattle.smv_scope.specs.KnownFormals.{rows, formal_of, IsOpen, IsSameButFormals}
use Rattle.smv_scope.specs.WaitingLookUps.{has_frame, IsWaiting, AreSettled, work}
use Rattle.smv_scope.proofs.names.Scene.answer_formal.Given as goal

abbrev pub decreases-loop-frame : goal.decreases-loop-frame
decreases-loop-frame l = work (rows l.self) l.waiting.items

abbrev pub invariant-loop-frame : goal.invariant-loop-frame
invariant-loop-frame l = record {
  same : IsSameButFormals l.fn.self l.self;
  settled : AreSettled (rows l.fn.self) (rows l.self);
  waiting : IsWaiting l.self l.waiting.items;
  waits : IsOpen (formal_of (rows l.self) l.spot l.formal) → has_frame l.waiting.items l.spot l.formal ≡ true;
}
