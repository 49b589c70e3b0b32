-- The numbers so far.
use Rattle.std.proofs.Common.{◌≡◌}
use Rattle.smv_scope.specs.DefinitionOrder.{upto}
use Rattle.smv_scope.proofs.needs.all_of.Given as goal

abbrev pub invariant-loop-definition : goal.invariant-loop-definition
invariant-loop-definition l = l.all.items ≡ upto l.definition
