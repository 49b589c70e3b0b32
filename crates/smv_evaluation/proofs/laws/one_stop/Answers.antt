use Rattle.smv_evaluation.proofs.StopLaws.{one_stop, reaching_does_not}
use Rattle.smv_evaluation.proofs.laws.one_stop.Goals as goal

pub returns-clause-one : goal.returns-clause-one
returns-clause-one c = one_stop

pub returns-clause-none : goal.returns-clause-none
returns-clause-none c = reaching_does_not
