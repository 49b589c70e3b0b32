use Rattle.std.proofs.Common.{◌∙◌, ap}
use Rattle.smv_language.specs.ModelTree.{model_tree}
use Rattle.sat_encoding_laws.specs.Layout.{input_bits}
use Rattle.sat_encoding_laws.specs.Lists.{first_list, step_list}
use Rattle.sat_encoding.proofs.lists.encode.Goals as goal

pub returns : goal.returns
returns c =
    let same = ap model_tree c.in_ok-source.ensures.model in
    let inputs = c.in_ok-source.ensures.source.inputs ∙ ap input_bits same in
    let first = c.into_clauses.ensures ∙ c.in_ok-first.ensures ∙ ap first_list same in
    let step = c.into_clauses-2.ensures ∙ c.in_ok-step.ensures ∙ ap step_list same in
    record { exact = λ i. record { state_bits = c.bits.ensures.bits i; input_bits = inputs i; first = first i; step = step i } }
