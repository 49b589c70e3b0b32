use Rattle.std.proofs.Common.{ap, ◌∙◌}
use Rattle.cut_model_search.specs.FaultyModels.{whole_in}
use Rattle.cut_model_search.proofs.faulty.FaultyModel.full.Goals as goal

pub returns : goal.returns
returns c = c.self.invariant.whole ∙ ap whole_in c.self.view_is
