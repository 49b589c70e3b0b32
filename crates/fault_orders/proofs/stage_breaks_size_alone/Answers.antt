use Rattle.fault_orders.proofs.StageKinds.{stage_none, stage_size_alone}
use Rattle.fault_orders.proofs.stage_breaks_size_alone.Goals as goal

pub returns-clause-none : goal.returns-clause-none
returns-clause-none c = stage_none

pub returns-clause-size : goal.returns-clause-size
returns-clause-size c = stage_size_alone
