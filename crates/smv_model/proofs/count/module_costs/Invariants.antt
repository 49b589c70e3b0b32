use Rattle.std.proofs.Common.{◌≡◌, ◌++◌, drop, map}
use Rattle.smv_model.specs.ModuleCosts.{module_cost}
use Rattle.smv_model.proofs.count.module_costs.Given as goal

abbrev pub invariant-loop-names : goal.invariant-loop-names
invariant-loop-names l = l.costs.items ++ map module_cost (drop l.names-index l.modules) ≡ map module_cost l.modules
