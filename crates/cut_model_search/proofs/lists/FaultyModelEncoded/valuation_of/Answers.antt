use Rattle.std.proofs.Common.{sym, subst}
use Rattle.smv_language.specs.ModelTree.{model_tree}
use Rattle.sat_encoding_laws.specs.Encodable.{IsEncodable}
use Rattle.cut_model_search.specs.FaultyModels.{flat_in, modes_in, event_in}
use Rattle.cut_model_search.proofs.Readings.{are_read_of}
use Rattle.cut_model_search.proofs.lists.FaultyModelEncoded.valuation_of.Goals as goal

pub read-requires : goal.read-requires
read-requires c = subst IsEncodable (sym c.full.ensures) c.can_be_searched.ensures.encodable

pub returns : goal.returns
returns c =
    let v = c.args.self.now in
    are_read_of (flat_in v) (modes_in v) (event_in v) c.can_be_searched.ensures.encodable (model_tree c.full.result.now.model) c.full.ensures c.args.last c.args.moment.now c.read.result c.requires c.read.ensures
