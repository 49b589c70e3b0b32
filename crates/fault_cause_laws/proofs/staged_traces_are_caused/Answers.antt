use Rattle.fault_cause_laws.proofs.StagedTraces.{staged_traces}
use Rattle.fault_cause_laws.proofs.staged_traces_are_caused.Goals as goal

pub returns : goal.returns
returns c = λ m fs cs are. staged_traces m fs cs are
