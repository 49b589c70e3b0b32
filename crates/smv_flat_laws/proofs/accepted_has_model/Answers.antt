use Rattle.smv_flat_laws.proofs.accepted_has_model.Goals as goal
use Rattle.smv_flat_laws.proofs.ModelMade.{has_model}

pub returns : goal.returns
returns c = has_model
