use Rattle.std.proofs.Common.{◌≡◌, ◌≤◌, Bool, Some, length, map, min, refl, sym, ap, subst, arith}
use Rattle.std.specs.Prelude.{slice_get, if◌then◌else◌}
use Rattle.std.proofs.lemmas.List.{length-map}
use Rattle.smv_language.specs.declared.model.FlatModel.{FlatModel as Model}
use Rattle.smv_language.specs.ModelTree.{model_tree, variable_tree}
use Rattle.sat_encoding_laws.specs.Lists.{names_of}
use Rattle.sat_expressions.specs.BuiltSignals.{signal_of, signals_of}
use Rattle.sat_expressions.proofs.ChoiceLoop.{usable_at, usable_later, length_signals}
use Rattle.sat_encoding.specs.Domains.{domain_gates}
use Rattle.sat_encoding.specs.Copies.{Builds}
use Rattle.sat_encoding.proofs.LoopLaws.{domains_next, domains_end}
use Rattle.sat_encoding.proofs.domains.domains.Goals as goal

pub domain_if-requires-clause-usable : goal.domain_if-requires-clause-usable
domain_if-requires-clause-usable c =
    usable_at c.loop-i.g c.args.signals.now c.loop-i.i c.at-in-loop-i.result.now c.at-in-loop-i.result.now c.at-in-loop-i.ensures refl (usable_later c.args.g.now c.loop-i.g c.loop-i.invariant.1 c.args.signals.now c.requires.usable)

pub loop-i-preserved : goal.loop-i-preserved
loop-i-preserved c =
    let at : slice_get c.args.t.now.model.variables c.loop-i.i ≡ Some c.at.result.now = subst (λ (m : Model). slice_get m.variables c.loop-i.i ≡ Some c.at.result.now) c.model-in-loop-i.ensures.model c.at.ensures in (
      (λ now next.
          domains_next c.args.t.now.model c.requires.encodable c.loop-i.i c.at.result.now c.domain.result.now at c.domain.ensures.domain now next c.args.all c.args.signals.now c.at-in-loop-i.result.now c.args.symbols c.args.g.now c.loop-i.g c.domain_if.new.g _
          c.requires.symbols c.at-in-loop-i.ensures
          (subst (λ (b : Bool). Builds c.loop-i.g (if b then domain_gates c.args.symbols c.domain.result.now (signal_of c.at-in-loop-i.result.now) c.loop-i.g else c.loop-i.g) c.domain_if.new.g) c.is_asked-asked.ensures c.in_ok-domain_if.ensures)
          (c.loop-i.invariant.0 now next)),
      omega (arith, c.loop-i.invariant.1, c.in_ok-domain_if.ensures.grows),
    )

pub returns : goal.returns
returns c =
    let end : min (length c.args.t.now.model.variables) (length c.args.signals.now) ≤ c.loop-i.i = omega (arith, ap (λ (m : Model). length m.variables) c.model.ensures.model) in
    λ now next. record {
      exact =
          sym (domains_end (model_tree c.args.t.now.model) (names_of (model_tree c.args.t.now.model) now next) c.args.all c.loop-i.i (length c.args.t.now.model.variables) (length c.args.signals.now)
          (map variable_tree c.args.t.now.model.variables) (signals_of c.args.signals.now) c.loop-i.g _ (length-map c.args.t.now.model.variables variable_tree) (length_signals c.args.signals.now) end (c.loop-i.invariant.0 now next));
      grows = c.loop-i.invariant.1;
    }
