use Rattle.std.proofs.Common.{arith, ◌≡◌, IsTrue, length, ap, ◌∙◌, below_more}
use Rattle.smv_language.specs.declared.model.FlatModel.{FlatModel}
use Rattle.test_encoding.proofs.Laws.{lawful, one_value}
use Rattle.test_encoding.proofs.models.is_lawful.Goals as goal

pub loop-i-init : goal.loop-i-init
loop-i-init c = λ k less. absurd (omega (arith, less))

pub loop-i-preserved : goal.loop-i-preserved
loop-i-preserved c =
    let is : IsTrue c.has_at.result = grind arith in
    below_more _ _ c.loop-i.invariant (one_value c.args.t.now.model c.args.v.now c.loop-i.i c.get.result c.get.ensures (c.has_at.ensures is))

pub returns : goal.returns
returns c = λ e.
    let same : length c.model.result.now.variables ≡ length c.args.t.now.model.variables = ap (λ (m : FlatModel). length m.variables) c.model.ensures.model in
    let long : length c.args.v.now ≡ length c.args.t.now.model.variables = omega (arith, same) in
    lawful c.args.t.now.model c.args.v.now long (λ k less. c.loop-i.invariant k (omega (arith, less)))
