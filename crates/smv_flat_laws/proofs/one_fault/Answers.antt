use Rattle.smv_flat_laws.proofs.one_fault.Goals as goal
use Rattle.smv_flat_laws.proofs.Laws.{one_fault, accepted_unbroken}

pub returns-clause-one : goal.returns-clause-one
returns-clause-one c = one_fault

pub returns-clause-none : goal.returns-clause-none
returns-clause-none c = accepted_unbroken
