use Rattle.std.proofs.Common.{◌∙◌, List, map, sym, ap}
use Rattle.smv_language.specs.declared.model.Formula.{Formula}
use Rattle.smv_language.specs.declared.model.FlatModel.{FlatModel as Model}
use Rattle.smv_language.specs.ModelTree.{formula_tree}
use Rattle.sat_circuits.specs.Circuit.{Circuit}
use Rattle.sat_expressions.specs.ModelNames.{model_of, names_in}
use Rattle.sat_encoding.specs.Copies.{source_model}
use Rattle.sat_encoding.proofs.ModelParts.{first_right}
use Rattle.sat_encoding.proofs.ListLaws.{rights_at, first_is}
use Rattle.sat_encoding.proofs.lists.first_circuit.Goals as goal

pub formulas-requires-clause-right : goal.formulas-requires-clause-right
formulas-requires-clause-right c =
    rights_at c.at-names.result (source_model c.args.source.now) c.args.source.now.model.now.model.init c.as_slice.result.now (ap model_of c.at-names.ensures) (c.as_slice.ensures ∙ ap (λ (m : Model). m.init) c.model.ensures.model)
    (first_right (source_model c.args.source.now) c.requires.encodable)

pub returns : goal.returns
returns c =
    let same = c.as_slice.ensures ∙ ap (λ (m : Model). m.init) c.model.ensures.model in
    sym (ap (λ (s : Circuit). s.clauses) (first_is (source_model c.args.source.now) c.at-names.result c.in_ok-g.g c.formulas.new.g c.in_ok-g.now (map formula_tree c.as_slice.result.now) c.in_ok-g.ensures.copy.exact (ap names_in c.at-names.ensures)
    (ap (λ (l : List Formula). map formula_tree l) same) c.in_ok-formulas.ensures))
