use Rattle.smv_evaluation.proofs.ModelLaws.{evaluable}
use Rattle.smv_evaluation.proofs.laws.flat_models_are_evaluable.Goals as goal

pub returns : goal.returns
returns c = evaluable
