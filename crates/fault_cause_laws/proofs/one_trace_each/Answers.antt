use Rattle.fault_cause_laws.proofs.OneEach.{one_each}
use Rattle.fault_cause_laws.proofs.one_trace_each.Goals as goal

pub returns : goal.returns
returns c = one_each
