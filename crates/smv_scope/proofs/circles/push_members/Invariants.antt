-- What is left, in front of the stack so far, is all in front of the first stack.
use Rattle.std.proofs.Common.{◌≡◌, ◌++◌, reverse}
use Rattle.smv_scope.specs.Components.{members}
use Rattle.smv_scope.proofs.circles.push_members.Given as goal

abbrev pub invariant-loop-definition : goal.invariant-loop-definition
invariant-loop-definition l = members l.component l.definition-iterator.iter.rest.now ++ reverse l.waiting.items ≡ members l.component l.definitions ++ reverse l.initial.waiting.items
