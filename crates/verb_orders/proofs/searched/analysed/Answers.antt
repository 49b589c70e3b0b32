use Rattle.std.proofs.Common.{subst}
use Rattle.cut_model_search.specs.FaultyModels.{AnswersSearch}
use Rattle.verb_orders.proofs.searched.analysed.Goals as goal

pub returns : goal.returns
returns g c = subst (λ v. AnswersSearch v c.args.depth 0 c.in_ok-analysis.analysis) c.in_ok-model.ensures c.in_ok-analysis.ensures
