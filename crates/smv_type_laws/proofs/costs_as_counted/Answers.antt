use Rattle.smv_type_laws.proofs.costs_as_counted.Goals as goal
use Rattle.smv_type_laws.proofs.Counted.{costs_as_counted}

pub returns : goal.returns
returns c = costs_as_counted
