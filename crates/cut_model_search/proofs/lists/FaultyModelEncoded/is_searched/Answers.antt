use Rattle.cut_search_laws.proofs.Serves.{lists_serve}
use Rattle.cut_model_search.specs.FaultyModels.{flat_in, modes_in, event_in}
use Rattle.cut_model_search.proofs.lists.FaultyModelEncoded.is_searched.Goals as goal

pub returns : goal.returns
returns c =
    let v = c.args.self.now in
    (lists_serve (flat_in v) (modes_in v) (event_in v) c.can_be_searched.ensures.own c.can_be_searched.ensures.encodable).0
