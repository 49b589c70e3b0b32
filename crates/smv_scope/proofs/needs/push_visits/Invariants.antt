-- What is left, in front of the stack so far, is all in front of the first stack.
use Rattle.std.proofs.Common.{◌≡◌, ◌++◌, reverse}
use Rattle.smv_scope.specs.DefinitionOrder.{visits}
use Rattle.smv_scope.proofs.needs.push_visits.Given as goal

abbrev pub invariant-loop-definition : goal.invariant-loop-definition
invariant-loop-definition l = visits l.definition-iterator.iter.rest.now ++ reverse l.tasks.items ≡ visits l.definitions ++ reverse l.initial.tasks.items
