use Rattle.fault_cause_laws.proofs.Traces.{additions_exactly}
use Rattle.fault_cause_laws.proofs.additions_are_exact.Goals as goal

pub returns : goal.returns
returns c = additions_exactly
