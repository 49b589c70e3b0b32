use Rattle.std.proofs.Common.{◌≡◌, ◌+◌, drop, length}
use Rattle.smv_type_laws.specs.Costs.{state_bits}
use Rattle.sat_encoding_laws.specs.Layout.{input_bits, input_place}
use Rattle.smv_language.specs.ModelTree.{model_tree}
use Rattle.sat_encoding.specs.Values.{bits_set, AreLeft}
use Rattle.sat_encoding.proofs.setting.set_all.Given as goal

abbrev pub invariant-loop-i : goal.invariant-loop-i
invariant-loop-i l =
    (bits_set l.t.model.symbols l.into l.places.state l.places.input (drop l.i l.t.model.variables) (drop l.i l.v)
    ≡ bits_set l.t.model.symbols l.fn.into 2 (input_place (model_tree l.t.model)) l.t.model.variables l.v)
    × AreLeft l.t.model.symbols l.into l.places.state l.places.input (2 + state_bits (model_tree l.t.model)) (input_place (model_tree l.t.model) + input_bits (model_tree l.t.model)) (drop l.i l.t.model.variables)
    × (length l.into ≡ length l.fn.into)
