use Rattle.std.proofs.Common.{sym, ◌∙◌, subst, arith, map}
use Rattle.std.proofs.lemmas.List.{length-map}
use Rattle.smv_language.specs.ModelTree.{model_tree}
use Rattle.smv_flat_laws.specs.FaultModes.{mode_of}
use Rattle.sat_encoding_laws.specs.Encodable.{IsEncodable}
use Rattle.cut_model_search.specs.FaultyModels.{faulty_of}
use Rattle.cut_model_search.proofs.BadLists.{few}
use Rattle.cut_model_search.proofs.HistoryBits.{bits_within, literals_last}
use Rattle.cut_model_search.proofs.faulty.FaultyModel.new.Goals as goal

pub overflow_cast-len : goal.overflow_cast-len
overflow_cast-len c =
    let most = few (faulty_of c.args.plain.now.model c.args.faults.now c.args.top.now) c.requires.searchable in
    let same = length-map c.args.faults.now mode_of in
    omega (arith, most, same, c.len.ensures)

pub history_literals-requires-clause-encodable : goal.history_literals-requires-clause-encodable
history_literals-requires-clause-encodable c = subst IsEncodable (sym c.requires.whole) c.requires.searchable.encodable

pub history_literals-requires-clause-faults : goal.history_literals-requires-clause-faults
history_literals-requires-clause-faults c =
    bits_within (model_tree c.args.plain.now.model) (map mode_of c.args.faults.now) (model_tree c.args.full.now.model) c.requires.whole c.len.result (c.len.ensures ∙ sym (length-map c.args.faults.now mode_of))

pub invariant_of-result : goal.invariant_of-result
invariant_of-result c = record {
  whole = c.requires.whole;
  searchable = c.requires.searchable;
  literals =
      literals_last (model_tree c.args.plain.now.model) (map mode_of c.args.faults.now) (model_tree c.args.full.now.model) c.requires.whole c.len.result (c.len.ensures ∙ sym (length-map c.args.faults.now mode_of)) c.in_ok-history.history
      c.in_ok-history.ensures;
}
