use Rattle.std.proofs.Common.{subst}
use Rattle.cut_model_search.specs.FaultyModels.{CanBeSearched}
use Rattle.cut_model_search.proofs.faulty.FaultyModel.can_be_searched.Goals as goal

pub returns : goal.returns
returns c = subst CanBeSearched c.self.view_is c.self.invariant.searchable
