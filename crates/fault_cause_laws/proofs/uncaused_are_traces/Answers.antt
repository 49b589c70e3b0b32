use Rattle.fault_cause_laws.proofs.Stood.{uncaused}
use Rattle.fault_cause_laws.proofs.UncausedExtended.{uncaused_extended}
use Rattle.fault_cause_laws.proofs.uncaused_are_traces.Goals as goal

pub returns-clause-flat : goal.returns-clause-flat
returns-clause-flat c = uncaused

pub returns-clause-extended : goal.returns-clause-extended
returns-clause-extended c = uncaused_extended
