-- The look-ups that are taken off so far are answered, and that of the formal stands below.
use Rattle.std.proofs.Common.{◌≡◌, true, length}
use Rattle.smv_scope.specs.KnownFormals.{rows, IsSameButFormals}
use Rattle.smv_scope.specs.WaitingLookUps.{has_frame, IsClosing}
use Rattle.smv_scope.proofs.names.Scene.close_circle.Given as goal

abbrev pub decreases-loop-left : goal.decreases-loop-left
decreases-loop-left l = length l.left

abbrev pub invariant-loop-left : goal.invariant-loop-left
invariant-loop-left l = record {
  same : IsSameButFormals l.initial.self l.self;
  closing : IsClosing (rows l.initial.self) (rows l.self) l.waiting l.left;
  there : has_frame l.left l.spot l.formal ≡ true;
}
