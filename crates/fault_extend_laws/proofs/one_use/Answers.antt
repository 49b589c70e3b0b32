use Rattle.fault_extend_laws.proofs.one_use.Goals as goal
use Rattle.fault_extend_laws.proofs.ExpressionLaws.{one_use, none_first}

pub returns-clause-one : goal.returns-clause-one
returns-clause-one c = one_use

pub returns-clause-none : goal.returns-clause-none
returns-clause-none c = none_first
