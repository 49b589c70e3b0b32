use Rattle.std.proofs.Common.{◌≤◌, ◌∙◌, List, length, map, ap, arith}
use Rattle.std.proofs.lemmas.List.{length-map}
use Rattle.smv_language.specs.declared.model.Formula.{Formula}
use Rattle.smv_language.specs.declared.model.FlatModel.{FlatModel as Model}
use Rattle.smv_language.specs.ModelTree.{formula_tree}
use Rattle.sat_expressions.specs.BuiltSignals.{signals_of}
use Rattle.sat_encoding.specs.Copies.{source_model}
use Rattle.sat_encoding.proofs.ModelParts.{definition_right, got_in}
use Rattle.sat_encoding.proofs.ListLaws.{defines_next, defines_end}
use Rattle.sat_encoding.proofs.lists.definitions.Goals as goal
use Rattle.smv_language.proofs.ListLaws.{get_map}

pub definition-requires-clause-right : goal.definition-requires-clause-right
definition-requires-clause-right c =
    definition_right (source_model c.args.source.now) c.requires.encodable c.loop-d.d-index (formula_tree c.d-item.result)
    (get_map formula_tree c.args.source.now.model.now.model.definitions c.loop-d.d-index c.d-item.result
    (got_in c.as_slice-d-items.result.now c.args.source.now.model.now.model.definitions c.loop-d.d-index c.d-item.result (c.as_slice-d-items.ensures ∙ ap (λ (m : Model). m.definitions) c.model.ensures.model) (omega arith) c.d-item.is))

pub loop-d-preserved : goal.loop-d-preserved
loop-d-preserved c =
    defines_next (source_model c.args.source.now) (signals_of c.args.variables) c.args.all (map formula_tree c.args.source.now.model.now.model.definitions) c.args.g.now _ c.loop-d.d-index (formula_tree c.d-item.result) c.loop-d.copy c.in_ok-signal.signal _
    c.loop-d.g c.definition.new.g
    (get_map formula_tree c.args.source.now.model.now.model.definitions c.loop-d.d-index c.d-item.result
    (got_in c.as_slice-d-items.result.now c.args.source.now.model.now.model.definitions c.loop-d.d-index c.d-item.result (c.as_slice-d-items.ensures ∙ ap (λ (m : Model). m.definitions) c.model.ensures.model) (omega arith) c.d-item.is))
    c.in_ok-signal.ensures c.in_ok-push.ensures.ok c.loop-d.invariant

pub returns : goal.returns
returns c =
    let end : length (map formula_tree c.args.source.now.model.now.model.definitions) ≤ c.loop-d.d-index =
    omega (arith, length-map c.args.source.now.model.now.model.definitions formula_tree, ap (λ (l : List Formula). length l) (c.as_slice-d-items.ensures ∙ ap (λ (m : Model). m.definitions) c.model.ensures.model)) in
    defines_end (source_model c.args.source.now) (signals_of c.args.variables) c.args.all (map formula_tree c.args.source.now.model.now.model.definitions) c.args.g.now _ c.loop-d.d-index c.loop-d.copy c.loop-d.g end c.loop-d.invariant
