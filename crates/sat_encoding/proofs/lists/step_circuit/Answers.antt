use Rattle.std.proofs.Common.{◌∙◌, List, true, false, map, sym, ap, subst}
use Rattle.smv_language.specs.Language.{Each, formula_tree}
use Rattle.smv_language.specs.declared.model.Formula.{Formula}
use Rattle.smv_language.specs.declared.model.FlatModel.{FlatModel as Model}
use Rattle.sat_circuits.specs.Circuit.{Circuit}
use Rattle.sat_encoding_laws.specs.Layout.{variable_signals}
use Rattle.sat_encoding_laws.specs.Lists.{copy_gates}
use Rattle.sat_encoding.specs.Copies.{source_model, IsRightFormula}
use Rattle.sat_encoding.proofs.ModelParts.{step_right}
use Rattle.sat_encoding.proofs.CopyLaws.{copied_later}
use Rattle.sat_encoding.proofs.ListLaws.{step_is}
use Rattle.sat_encoding.proofs.lists.step_circuit.Goals as goal

pub formulas-requires-clause-named : goal.formulas-requires-clause-named
formulas-requires-clause-named c =
    record {
      now = copied_later c.in_ok-now.now c.copied.new.g c.copied-2.new.g c.in_ok-next.ensures.copy.grows c.in_ok-now.ensures.copy.usable;
      next = c.in_ok-next.ensures.copy.usable;
      symbols = c.requires.source.symbols;
    }

pub formulas-requires-clause-right : goal.formulas-requires-clause-right
formulas-requires-clause-right c =
    subst (λ (l : List Formula). Each (IsRightFormula (source_model c.args.source.now)) (map formula_tree l)) (sym (c.as_slice.ensures ∙ ap (λ (m : Model). m.trans) c.model.ensures.model)) (step_right (source_model c.args.source.now) c.requires.encodable)

pub returns : goal.returns
returns c =
    let m = source_model c.args.source.now in
    let same = c.as_slice.ensures ∙ ap (λ (m : Model). m.trans) c.model.ensures.model in
    sym (ap (λ (s : Circuit). s.clauses) (step_is m c.copied.new.g c.copied-2.new.g c.formulas.new.g c.in_ok-now.now c.in_ok-next.next (map formula_tree c.as_slice.result.now)
    (sym (λ i. copy_gates (source_model c.args.source.now) (variable_signals (source_model c.args.source.now).symbols (c.places_now.ensures.state i) (c.places_now.ensures.input i) (source_model c.args.source.now).variables) true (c.in_ok-g.ensures i)) ∙ c.in_ok-now.ensures.copy.exact)
    (sym (λ i. copy_gates (source_model c.args.source.now) (variable_signals (source_model c.args.source.now).symbols (c.places_next.ensures.state i) (c.places_next.ensures.input i) (source_model c.args.source.now).variables) false c.copied.new.g) ∙ c.in_ok-next.ensures.copy.exact)
    (ap (λ (l : List Formula). map formula_tree l) same) c.in_ok-formulas.ensures))
