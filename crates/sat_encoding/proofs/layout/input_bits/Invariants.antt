use Rattle.std.proofs.Common.{◌≡◌, ◌+◌, ◌≤◌, ◌^◌, drop, map}
use Rattle.std.specs.Prelude.{sum_by}
use Rattle.smv_language.specs.ModelTree.{model_tree, variable_tree}
use Rattle.sat_encoding_laws.specs.Layout.{input_width, input_bits}
use Rattle.sat_encoding.proofs.layout.input_bits.Given as goal

abbrev pub invariant-loop-i : goal.invariant-loop-i
invariant-loop-i l =
    (l.bits + sum_by (input_width l.t.model.symbols) (drop l.i (map variable_tree l.t.model.variables)) ≡ input_bits (model_tree l.t.model)) × (l.bits ≤ 2 ^ 31)
