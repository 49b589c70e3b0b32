use Rattle.fault_cause_laws.proofs.Events.{events_same}
use Rattle.fault_cause_laws.proofs.staged_events_are_events.Goals as goal

pub returns : goal.returns
returns c = λ m fs cs are trace times is i. events_same m fs cs are trace times is i
