use Rattle.std.proofs.Common.{◌≡◌, ◌≤◌, ◌^◌, ◌++◌, drop, take, length}
use Rattle.sat_encoding_laws.specs.Layout.{input_place}
use Rattle.smv_language.specs.ModelTree.{model_tree}
use Rattle.sat_encoding.specs.Values.{values_read}
use Rattle.sat_encoding.proofs.bits.read_into.Given as goal

abbrev pub invariant-loop-i : goal.invariant-loop-i
invariant-loop-i l =
    (take l.i l.into ++ values_read l.t.model.symbols l.least l.a l.places.state l.places.input (drop l.i l.t.model.variables)
    ≡ values_read l.t.model.symbols l.least l.a 2 (input_place (model_tree l.t.model)) l.t.model.variables)
    × (length l.into ≡ length l.t.model.variables)
    × (1 ≤ l.places.state)
    × (l.places.state ≤ 2 ^ 62)
    × (1 ≤ l.places.input)
    × (l.places.input ≤ 2 ^ 62)
