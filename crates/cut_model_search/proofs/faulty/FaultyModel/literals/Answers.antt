use Rattle.std.proofs.Common.{ap, ◌∙◌}
use Rattle.cut_model_search.specs.FaultyModels.{history_in}
use Rattle.cut_model_search.proofs.faulty.FaultyModel.literals.Goals as goal

pub returns : goal.returns
returns c = c.as_slice.ensures ∙ c.self.invariant.literals ∙ ap history_in c.self.view_is
