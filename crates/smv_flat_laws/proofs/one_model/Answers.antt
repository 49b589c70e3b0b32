use Rattle.smv_flat_laws.proofs.one_model.Goals as goal
use Rattle.smv_flat_laws.proofs.OneModel.{one_model}

pub returns : goal.returns
returns c = one_model
