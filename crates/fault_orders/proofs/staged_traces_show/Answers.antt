use Rattle.fault_orders.proofs.Ends.{ends_tell, own_kept}
use Rattle.fault_orders.proofs.staged_traces_show.Goals as goal

pub returns-clause-tell : goal.returns-clause-tell
returns-clause-tell c = ends_tell

pub returns-clause-keep : goal.returns-clause-keep
returns-clause-keep c = own_kept
