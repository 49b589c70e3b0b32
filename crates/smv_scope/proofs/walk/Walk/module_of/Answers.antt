-- The module that was found, which the walk isn't in.
use Rattle.std.proofs.Common.{◌∙◌, sym}
use Rattle.smv_scope.proofs.walk.Walk.module_of.Goals as goal

pub returns-else-len-ge-MOST_INSTANCES-clause-found : goal.returns-else-len-ge-MOST_INSTANCES-clause-found
returns-else-len-ge-MOST_INSTANCES-clause-found c = record {
  names = c.in-Some.names.now;
  is = c.in-Some.ensures;
  fresh = sym c.is_inside.ensures ∙ c.if-is_inside.false;
}
