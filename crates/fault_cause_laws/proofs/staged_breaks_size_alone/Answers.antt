use Rattle.fault_cause_laws.proofs.StagedKinds.{staged_none, staged_size_alone}
use Rattle.fault_cause_laws.proofs.staged_breaks_size_alone.Goals as goal

pub returns-clause-none : goal.returns-clause-none
returns-clause-none c = staged_none

pub returns-clause-size : goal.returns-clause-size
returns-clause-size c = staged_size_alone
