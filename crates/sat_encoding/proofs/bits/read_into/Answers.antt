use Rattle.std.proofs.Common.{◌≡◌, ◌+◌, ◌∙◌, Some, length, sym, ap, subst, arith}
use Rattle.std.specs.Prelude.{slice_get, if◌then◌else◌}
use Rattle.std.proofs.lemmas.List.{length-set}
use Rattle.smv_language.specs.declared.model.FlatModel.{FlatModel as Model}
use Rattle.smv_language.specs.ModelTree.{role_of}
use Rattle.smv_type_laws.specs.Costs.{role_width}
use Rattle.smv_types.specs.Types.{variable_domain}
use Rattle.sat_encoding_laws.specs.Layout.{width_as_input}
use Rattle.sat_encoding.specs.declared.layout.Places.{Places}
use Rattle.sat_encoding.specs.Domains.{domain_interval, domain_width, capped}
use Rattle.sat_encoding.specs.Values.{least_in, domain_read}
use Rattle.sat_encoding.proofs.ModelParts.{domain_at}
use Rattle.sat_encoding.proofs.ReadModels.{read_next}
use Rattle.sat_encoding.proofs.bits.read_into.Goals as goal

pub loop-i-preserved : goal.loop-i-preserved
loop-i-preserved c =
    let at : slice_get c.args.t.now.model.variables c.loop-i.i ≡ Some c.at.result.now = subst (λ (m : Model). slice_get m.variables c.loop-i.i ≡ Some c.at.result.now) c.model-in-loop-i.ensures.model c.at.ensures in
    let same : c.domain-domain.result.now ≡ variable_domain c.args.t.now.model.symbols c.at.result.now = sym (domain_at c.args.t.now.model c.requires.encodable c.loop-i.i c.at.result.now c.domain-domain.result.now at c.domain-domain.ensures.domain) in
    let wide = c.domain_width.ensures ∙ ap domain_width same in
    let state : c.capped-places.result.state ≡ capped (c.loop-i.places.state + role_width (role_of c.at.result.now.role) (domain_width (variable_domain c.args.t.now.model.symbols c.at.result.now))) =
    ap (λ (p : Places). p.state) c.capped-places.ensures ∙ ap (λ (p : Places). capped p.state) c.after.ensures ∙ ap (λ w. capped (c.loop-i.places.state + role_width (role_of c.at.result.now.role) w)) wide in
    let inputs : c.capped-places.result.input ≡ capped (c.loop-i.places.input + width_as_input (role_of c.at.result.now.role) (domain_width (variable_domain c.args.t.now.model.symbols c.at.result.now))) =
    ap (λ (p : Places). p.input) c.capped-places.ensures ∙ ap (λ (p : Places). capped p.input) c.after.ensures ∙ ap (λ w. capped (c.loop-i.places.input + width_as_input (role_of c.at.result.now.role) w)) wide in
    let value = c.value_read-value.ensures ∙ (λ k. if (c.is_least.ensures k) then least_in (same k) (domain_interval (same k)) else domain_read (same k) c.args.a.now (c.of.ensures k)) in (
      read_next c.args.t.now.model.symbols c.args.least c.args.a.now c.args.t.now.model.variables c.loop-i.i c.at.result.now c.loop-i.into c.set.new.self c.value_read-value.result c.loop-i.places.state c.loop-i.places.input
          c.capped-places.result.state c.capped-places.result.input _ at (omega (arith, c.loop-i.invariant.1, ap (λ (m : Model). length m.variables) c.model.ensures.model)) c.set.ensures value state inputs c.loop-i.invariant.0,
      ap length c.set.ensures ∙ length-set c.loop-i.into c.loop-i.i c.value_read-value.result ∙ c.loop-i.invariant.1,
      omega (arith, state, c.loop-i.invariant.2),
      omega (arith, state),
      omega (arith, inputs, c.loop-i.invariant.4),
      omega (arith, inputs),
    )
