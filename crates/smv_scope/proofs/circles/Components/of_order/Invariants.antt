-- What waits so far, with what is left in front, is all.
use Rattle.std.proofs.Common.{◌≡◌, [], drop, reverse}
use Rattle.smv_scope.specs.Components.{with_own}
use Rattle.smv_scope.proofs.circles.Components.of_order.Given as goal

abbrev pub invariant-loop-component : goal.invariant-loop-component
invariant-loop-component l = with_own (reverse l.waiting.items) l.component (drop l.component l.order) ≡ with_own [] 0 l.order
