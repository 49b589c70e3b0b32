use Rattle.std.proofs.Common.{◌≡◌, ◌≤◌, ◌++◌, drop, map}
use Rattle.smv_language.specs.ModelTree.{variable_tree}
use Rattle.sat_encoding_laws.specs.Layout.{variable_signals}
use Rattle.sat_expressions.specs.BuiltSignals.{signals_of}
use Rattle.sat_encoding.proofs.layout.variable_signals.Given as goal

abbrev pub invariant-loop-i : goal.invariant-loop-i
invariant-loop-i l =
    (signals_of l.signals ++ variable_signals l.t.model.symbols l.places.state l.places.input (drop l.i (map variable_tree l.t.model.variables))
    ≡ variable_signals l.t.model.symbols l.fn.first.state l.fn.first.input (map variable_tree l.t.model.variables))
    × (1 ≤ l.places.state)
    × (1 ≤ l.places.input)
