use Rattle.std.proofs.Common.{◌≡◌, ℕ, ◌+◌, ◌∙◌, Some, length, drop, sym, ap, subst, arith, w64}
use Rattle.std.specs.Prelude.{slice_get}
use Rattle.std.proofs.lemmas.Int.{to_z-of_z}
use Rattle.smv_language.specs.declared.model.FlatModel.{FlatModel as Model}
use Rattle.smv_language.specs.ModelTree.{model_tree, role_of}
use Rattle.smv_type_laws.specs.Costs.{role_width, state_bits}
use Rattle.sat_clauses.specs.Assignment.{Assignment}
use Rattle.sat_encoding_laws.specs.Layout.{width_as_input, place_of, input_bits, input_place}
use Rattle.sat_encoding_laws.specs.Bits.{number_bits}
use Rattle.sat_encoding.specs.declared.layout.Places.{Places}
use Rattle.sat_encoding.specs.Domains.{domain_width}
use Rattle.sat_encoding.specs.Values.{number_of, with_bits, bits_set, AreLeft}
use Rattle.sat_encoding.proofs.SettingLaws.{length_with}
use Rattle.sat_encoding.proofs.SetModels.{own_here, left_here, set_here}
use Rattle.sat_encoding.proofs.setting.set_all.Goals as goal

pub set_bits-requires-clause-range : goal.set_bits-requires-clause-range
set_bits-requires-clause-range c =
    let at : slice_get c.args.t.now.model.variables c.loop-i.i ≡ Some c.at.result.now = subst (λ (m : Model). slice_get m.variables c.loop-i.i ≡ Some c.at.result.now) c.model-in-loop-i.ensures.model c.at.ensures in
    let own = own_here c.args.t.now.model c.requires.encodable c.loop-i.i c.at.result.now c.domain.result.now at c.domain.ensures.domain c.loop-i.into c.loop-i.places.state c.loop-i.places.input _ _ c.loop-i.invariant.1 in
    omega (arith, c.of.ensures, c.domain_width-width.ensures, own.1.0, c.loop-i.invariant.2, c.requires.places)

pub set_bits-requires-clause-free : goal.set_bits-requires-clause-free
set_bits-requires-clause-free c =
    let at : slice_get c.args.t.now.model.variables c.loop-i.i ≡ Some c.at.result.now = subst (λ (m : Model). slice_get m.variables c.loop-i.i ≡ Some c.at.result.now) c.model-in-loop-i.ensures.model c.at.ensures in
    let own = own_here c.args.t.now.model c.requires.encodable c.loop-i.i c.at.result.now c.domain.result.now at c.domain.ensures.domain c.loop-i.into c.loop-i.places.state c.loop-i.places.input _ _ c.loop-i.invariant.1 in
    λ x low high. own.0 x (omega (arith, low, c.of.ensures)) (omega (arith, high, c.of.ensures, c.domain_width-width.ensures))

pub after-places-requires-clause-input : goal.after-places-requires-clause-input
after-places-requires-clause-input c = omega (arith, c.loop-i.invariant.1.inputs, c.requires.places)

pub loop-i-preserved : goal.loop-i-preserved
loop-i-preserved c =
    let at : slice_get c.args.t.now.model.variables c.loop-i.i ≡ Some c.at.result.now = subst (λ (m : Model). slice_get m.variables c.loop-i.i ≡ Some c.at.result.now) c.model-in-loop-i.ensures.model c.at.ensures in
    let number = to_z-of_z w64 c.number_of.result (record { sfits = c.number_of.type_inv }) ∙ c.number_of.ensures in
    let place = place_of (role_of c.at.result.now.role) c.loop-i.places.state c.loop-i.places.input in
    let set : c.set_bits.new.into ≡ with_bits c.loop-i.into place (number_bits (domain_width c.domain.result.now) (number_of c.get.result)) =
    c.set_bits.ensures ∙ (λ k. with_bits c.loop-i.into (c.of.ensures k) (number_bits (c.domain_width-width.ensures k) (number k))) in
    let state : c.after-places.result.state ≡ c.loop-i.places.state + role_width (role_of c.at.result.now.role) (domain_width c.domain.result.now) =
    ap (λ (p : Places). p.state) c.after-places.ensures ∙ ap (λ w. c.loop-i.places.state + role_width (role_of c.at.result.now.role) w) c.domain_width-width.ensures in
    let inputs : c.after-places.result.input ≡ c.loop-i.places.input + width_as_input (role_of c.at.result.now.role) (domain_width c.domain.result.now) =
    ap (λ (p : Places). p.input) c.after-places.ensures ∙ ap (λ w. c.loop-i.places.input + width_as_input (role_of c.at.result.now.role) w) c.domain_width-width.ensures in
    let left = left_here c.args.t.now.model c.requires.encodable c.loop-i.i c.at.result.now c.domain.result.now at c.domain.ensures.domain c.loop-i.into c.loop-i.places.state c.loop-i.places.input _ _ c.get.result c.loop-i.invariant.1 in
    let rest = drop (c.loop-i.i + 1) c.args.t.now.model.variables in
    let ends_p = 2 + state_bits (model_tree c.args.t.now.model) in
    let ends_q = input_place (model_tree c.args.t.now.model) + input_bits (model_tree c.args.t.now.model) in (
      (λ k. bits_set c.args.t.now.model.symbols (set k) (state k) (inputs k) rest (drop (c.loop-i.i + 1) c.args.v.now))
          ∙ set_here c.args.t.now.model c.requires.encodable c.loop-i.i c.at.result.now c.domain.result.now at c.domain.ensures.domain c.loop-i.into c.loop-i.places.state c.loop-i.places.input c.args.v.now c.get.result _ c.get.ensures c.loop-i.invariant.0,
      subst (λ (a : Assignment). AreLeft c.args.t.now.model.symbols a c.after-places.result.state c.after-places.result.input ends_p ends_q rest) (sym set)
          (subst (λ (p : ℕ). AreLeft c.args.t.now.model.symbols (with_bits c.loop-i.into place (number_bits (domain_width c.domain.result.now) (number_of c.get.result))) p c.after-places.result.input ends_p ends_q rest) (sym state)
          (subst (λ (q : ℕ). AreLeft c.args.t.now.model.symbols (with_bits c.loop-i.into place (number_bits (domain_width c.domain.result.now) (number_of c.get.result))) (c.loop-i.places.state + role_width (role_of c.at.result.now.role) (domain_width c.domain.result.now)) q ends_p ends_q rest) (sym inputs) left)),
      ap length set ∙ length_with c.loop-i.into place (number_bits (domain_width c.domain.result.now) (number_of c.get.result)) ∙ c.loop-i.invariant.2,
    )
