-- What is made so far is what was read so far.
use Rattle.std.proofs.Common.{◌≡◌, map, take}
use Rattle.smv_language.specs.ModelTree.{variable_tree}
use Rattle.smv_language.proofs.copy_model.copy_variables.Given as goal

abbrev pub invariant-loop-variable : goal.invariant-loop-variable
invariant-loop-variable l = map variable_tree l.made ≡ map variable_tree (take l.variable-index l.variables)
