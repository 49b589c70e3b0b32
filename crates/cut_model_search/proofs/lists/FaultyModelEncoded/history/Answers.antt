use Rattle.std.proofs.Common.{sym, subst}
use Rattle.cut_search_laws.specs.FlatSearch.{AreHistory}
use Rattle.cut_search_laws.proofs.HistoryTells.{history_serves}
use Rattle.cut_model_search.specs.FaultyModels.{flat_in, modes_in, event_in, problem_in}
use Rattle.cut_model_search.proofs.lists.FaultyModelEncoded.history.Goals as goal

pub returns : goal.returns
returns c =
    let v = c.args.self.now in
    subst (AreHistory (problem_in v)) (sym c.literals.ensures) (history_serves (flat_in v) (modes_in v) (event_in v))
