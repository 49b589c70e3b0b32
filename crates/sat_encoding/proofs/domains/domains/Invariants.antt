use Rattle.std.proofs.Common.{◌≡◌, ◌≤◌, drop, map}
use Rattle.smv_language.specs.ModelTree.{model_tree, variable_tree}
use Rattle.sat_encoding_laws.specs.Lists.{Copy, names_of, domains_gates}
use Rattle.sat_expressions.specs.BuiltSignals.{signals_of}
use Rattle.sat_encoding.proofs.domains.domains.Given as goal

abbrev pub invariant-loop-i : goal.invariant-loop-i
invariant-loop-i l =
    ((now next : Copy) →
    domains_gates (model_tree l.t.model) (names_of (model_tree l.t.model) now next) l.all (drop l.i (map variable_tree l.t.model.variables)) (drop l.i (signals_of l.signals)) l.g
    ≡ domains_gates (model_tree l.t.model) (names_of (model_tree l.t.model) now next) l.all (map variable_tree l.t.model.variables) (signals_of l.signals) l.fn.g)
    × (l.fn.g.free ≤ l.g.free)
