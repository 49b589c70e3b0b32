-- What is made so far is what was read so far.
use Rattle.std.proofs.Common.{◌≡◌, map, take}
use Rattle.smv_language.specs.ModelTree.{formula_tree}
use Rattle.smv_language.proofs.copy_model.copy_formulas.Given as goal

abbrev pub invariant-loop-formula : goal.invariant-loop-formula
invariant-loop-formula l = map formula_tree l.made ≡ map formula_tree (take l.formula-index l.formulas)
