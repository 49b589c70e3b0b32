use Rattle.smv_type_laws.proofs.least_inputs_serve.Goals as goal
use Rattle.smv_type_laws.proofs.LeastLaws.{least_values_lie, mixed_values_lie, least_inputs_serve}

pub returns : goal.returns
returns c = record { least = least_values_lie; mixed = mixed_values_lie; serve = least_inputs_serve }
