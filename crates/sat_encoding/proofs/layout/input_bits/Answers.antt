use Rattle.std.proofs.Common.{◌≡◌, ◌∙◌, ◌+◌, Some, map, drop, ap, subst, arith}
use Rattle.std.specs.Prelude.{slice_get, sum_by}
use Rattle.smv_language.specs.declared.model.FlatModel.{FlatModel as Model}
use Rattle.smv_language.specs.ModelTree.{model_tree, variable_tree, role_of}
use Rattle.sat_encoding_laws.specs.Layout.{width_as_input, input_width, input_bits}
use Rattle.sat_encoding.proofs.LoopLaws.{bits_next}
use Rattle.sat_encoding.proofs.layout.input_bits.Goals as goal

-- all bits are no fewer than those so far
pub returns-then-bits-gt-END_OF_VARIABLES-clause-fits : goal.returns-then-bits-gt-END_OF_VARIABLES-clause-fits
returns-then-bits-gt-END_OF_VARIABLES-clause-fits c = λ fits.
    let flat = c.args.t.now.model in
    let at : slice_get flat.variables c.loop-i.i ≡ Some c.at-variable.result.now = subst (λ (m : Model). slice_get m.variables c.loop-i.i ≡ Some c.at-variable.result.now) c.model-in-loop-i.ensures.model c.at-variable.ensures in
    let all : c.loop-i.bits + c.width_as_input-bits.result + sum_by (input_width flat.symbols) (drop (c.loop-i.i + 1) (map variable_tree flat.variables)) ≡ input_bits (model_tree flat) =
    bits_next flat c.requires c.loop-i.i c.at-variable.result.now c.domain.result.now at c.domain.ensures.domain c.loop-i.bits c.width_as_input-bits.result (input_bits (model_tree flat))
    (c.width_as_input-bits.ensures.value ∙ ap (width_as_input (role_of c.at-variable.result.now.role)) c.domain_width.ensures) c.loop-i.invariant.0 in
    absurd (omega (arith, all, fits, c.if-bits-gt-END_OF_VARIABLES.true))

pub loop-i-preserved : goal.loop-i-preserved
loop-i-preserved c =
    let at : slice_get c.args.t.now.model.variables c.loop-i.i ≡ Some c.at-variable.result.now = subst (λ (m : Model). slice_get m.variables c.loop-i.i ≡ Some c.at-variable.result.now) c.model-in-loop-i.ensures.model c.at-variable.ensures in (
      bits_next c.args.t.now.model c.requires c.loop-i.i c.at-variable.result.now c.domain.result.now at c.domain.ensures.domain c.loop-i.bits c.width_as_input-bits.result _
          (c.width_as_input-bits.ensures.value ∙ ap (width_as_input (role_of c.at-variable.result.now.role)) c.domain_width.ensures) c.loop-i.invariant.0,
      c.if-bits-gt-END_OF_VARIABLES.false,
    )
