use Rattle.std.proofs.Common.{◌≡◌, [], drop, map}
use Rattle.smv_language.specs.ModelTree.{variable_tree, formula_tree}
use Rattle.sat_encoding_laws.specs.Inputs.{reading_after}
use Rattle.sat_encoding.proofs.inputs.reading_of.Given as goal

abbrev pub invariant-loop-definition : goal.invariant-loop-definition
invariant-loop-definition l =
    (reading_after (map variable_tree l.m.variables) l.reading.definitions.items (map formula_tree (drop l.definition-index l.m.definitions))
    ≡ reading_after (map variable_tree l.m.variables) [] (map formula_tree l.m.definitions))
    × (l.reading.variables.now ≡ l.m.variables)
