use Rattle.std.proofs.Common.{sym, subst}
use Rattle.cut_frames.specs.Condition.{IsFit}
use Rattle.cut_search_laws.proofs.Fitting.{lists_fit}
use Rattle.cut_model_search.specs.FaultyModels.{flat_in, modes_in, event_in}
use Rattle.cut_model_search.proofs.lists.FaultyModelEncoded.encode.Goals as goal

pub returns-clause-fit : goal.returns-clause-fit
returns-clause-fit c =
    let v = c.args.self.now in
    subst IsFit (sym c.in_ok-system.ensures) (lists_fit (flat_in v) (modes_in v) (event_in v) c.can_be_searched.ensures).0
