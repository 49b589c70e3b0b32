use Rattle.smv_type_laws.proofs.AnyResolver.{may_by}
use Rattle.smv_type_laws.proofs.ClosedLaws.{models_closed}
use Rattle.smv_type_laws.proofs.WrittenLaws.{written_values_lie, written_conditions_decided}
use Rattle.smv_type_laws.proofs.written_values_lie_in_kinds.Goals as goal

pub returns-clause-values : goal.returns-clause-values
returns-clause-values c = may_by

pub returns-clause-expressions : goal.returns-clause-expressions
returns-clause-expressions c = written_values_lie

pub returns-clause-conditions : goal.returns-clause-conditions
returns-clause-conditions c = written_conditions_decided

pub returns-clause-closed : goal.returns-clause-closed
returns-clause-closed c = models_closed
