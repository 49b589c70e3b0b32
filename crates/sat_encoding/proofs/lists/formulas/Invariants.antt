use Rattle.std.proofs.Common.{◌≡◌, ◌≤◌, drop, map}
use Rattle.smv_language.specs.ModelTree.{formula_tree}
use Rattle.sat_encoding_laws.specs.Lists.{formulas_gates}
use Rattle.sat_expressions.specs.ModelNames.{names_in}
use Rattle.sat_encoding.proofs.lists.formulas.Given as goal

abbrev pub invariant-loop-formula : goal.invariant-loop-formula
invariant-loop-formula l =
    (formulas_gates (names_in l.names) (drop l.formula-index (map formula_tree l.formulas)) l.g ≡ formulas_gates (names_in l.names) (map formula_tree l.formulas) l.fn.g)
    × (l.fn.g.free ≤ l.g.free)
