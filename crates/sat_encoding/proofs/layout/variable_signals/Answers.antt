use Rattle.std.proofs.Common.{◌≡◌, ◌+◌, ◌++◌, ◌∙◌, Some, drop, map, ap, subst, arith}
use Rattle.std.specs.Prelude.{slice_get}
use Rattle.smv_language.specs.declared.model.FlatModel.{FlatModel as Model}
use Rattle.smv_language.specs.ModelTree.{variable_tree, role_of}
use Rattle.smv_type_laws.specs.Costs.{role_width}
use Rattle.sat_encoding_laws.specs.Layout.{width_as_input, variable_signals}
use Rattle.sat_expressions.specs.BuiltSignals.{signals_of}
use Rattle.sat_encoding.specs.declared.layout.Places.{Places}
use Rattle.sat_encoding.specs.Domains.{domain_width, domain_signal}
use Rattle.sat_encoding.proofs.LoopLaws.{signals_next}
use Rattle.sat_encoding.proofs.layout.variable_signals.Goals as goal

pub loop-i-preserved : goal.loop-i-preserved
loop-i-preserved c =
    let at : slice_get c.args.t.now.model.variables c.loop-i.i ≡ Some c.at.result.now = subst (λ (m : Model). slice_get m.variables c.loop-i.i ≡ Some c.at.result.now) c.model-in-loop-i.ensures.model c.at.ensures in
    let state : c.after-places.result.state ≡ c.loop-i.places.state + role_width (role_of c.at.result.now.role) (domain_width c.domain-domain.result.now) =
    ap (λ (p : Places). p.state) c.after-places.ensures ∙ ap (λ w. c.loop-i.places.state + role_width (role_of c.at.result.now.role) w) c.domain_width.ensures in
    let inputs : c.after-places.result.input ≡ c.loop-i.places.input + width_as_input (role_of c.at.result.now.role) (domain_width c.domain-domain.result.now) =
    ap (λ (p : Places). p.input) c.after-places.ensures ∙ ap (λ w. c.loop-i.places.input + width_as_input (role_of c.at.result.now.role) w) c.domain_width.ensures in (
      (λ k. signals_of (c.in_ok-push.ensures.ok k) ++ variable_signals c.args.t.now.model.symbols (state k) (inputs k) (drop (c.loop-i.i + 1) (map variable_tree c.args.t.now.model.variables)))
          ∙ signals_next c.args.t.now.model c.requires.encodable c.loop-i.i c.at.result.now c.domain-domain.result.now at c.domain-domain.ensures.domain c.loop-i.signals c.in_ok-signal.signal c.args.symbols c.loop-i.places.state c.loop-i.places.input _
          c.requires.symbols (c.in_ok-signal.ensures ∙ ap (domain_signal c.args.symbols c.domain-domain.result.now) c.of.ensures) c.loop-i.invariant.0,
      omega (arith, state, c.loop-i.invariant.1),
      omega (arith, inputs, c.loop-i.invariant.2),
    )
