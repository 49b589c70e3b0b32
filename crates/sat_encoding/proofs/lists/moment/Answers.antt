use Rattle.std.proofs.Common.{◌∙◌, map, sym, ap, subst}
use Rattle.smv_language.specs.declared.model.FlatModel.{FlatModel as Model}
use Rattle.smv_language.specs.ModelTree.{formula_tree}
use Rattle.sat_circuits.specs.Circuit.{Circuit}
use Rattle.sat_encoding_laws.specs.Lists.{formulas_gates}
use Rattle.sat_expressions.specs.ModelNames.{model_of, names_in, copy_of, IsNamed}
use Rattle.sat_encoding.specs.Copies.{source_model, Builds}
use Rattle.sat_encoding.proofs.ModelParts.{each_right}
use Rattle.sat_encoding.proofs.CopyLaws.{copied_later, moment_is}
use Rattle.sat_encoding.proofs.ListLaws.{rights_at}
use Rattle.sat_encoding.proofs.lists.moment.Goals as goal

pub formulas-requires-clause-named : goal.formulas-requires-clause-named
formulas-requires-clause-named c =
    let built = c.in_ok-domains.ensures (copy_of c.args.copy.now) (copy_of c.args.copy.now) in
    let usable = copied_later c.args.copy.now c.args.g.now c.domains.new.g built.grows c.requires.usable in
    subst (IsNamed c.domains.new.g) (sym c.at-names.ensures) (record { now = usable; next = usable; symbols = c.requires.source.symbols })

pub formulas-requires-clause-right : goal.formulas-requires-clause-right
formulas-requires-clause-right c =
    rights_at c.at-names.result (source_model c.args.source.now) c.args.source.now.model.now.model.invar c.as_slice.result.now (ap model_of c.at-names.ensures) (c.as_slice.ensures ∙ ap (λ (m : Model). m.invar) c.model.ensures.model)
    (each_right (source_model c.args.source.now) c.requires.encodable)

pub returns : goal.returns
returns c =
    let same = c.as_slice.ensures ∙ ap (λ (m : Model). m.invar) c.model.ensures.model in
    moment_is (source_model c.args.source.now) c.args.copy.now c.args.all c.args.g.now c.domains.new.g c.formulas.new.g (λ now next. c.in_ok-domains.ensures now next)
    (subst (λ (r : Circuit). Builds c.domains.new.g r c.formulas.new.g) (λ i. formulas_gates (names_in (c.at-names.ensures i)) (map formula_tree (same i)) c.domains.new.g) c.in_ok-formulas.ensures)
