use Rattle.fault_extend.proofs.laws.one_told.Goals as goal
use Rattle.fault_extend.proofs.OneFault.{one_told, none_told}

pub returns-clause-one : goal.returns-clause-one
returns-clause-one c = one_told

pub returns-clause-none : goal.returns-clause-none
returns-clause-none c = none_told
