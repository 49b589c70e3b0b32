use Rattle.fault_woven_laws.proofs.Walks.{same_instances}
use Rattle.fault_woven_laws.proofs.Actuals.{actuals_mean}
use Rattle.fault_woven_laws.proofs.woven_instances_are_same.Goals as goal

pub returns-clause-instances : goal.returns-clause-instances
returns-clause-instances c = same_instances

pub returns-clause-actuals : goal.returns-clause-actuals
returns-clause-actuals c = actuals_mean
