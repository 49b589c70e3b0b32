use Rattle.smv_type_laws.proofs.Typed.{values_lie, conditions_decided, definitions_defined}
use Rattle.smv_type_laws.proofs.values_lie_in_kinds.Goals as goal

pub returns-clause-expressions : goal.returns-clause-expressions
returns-clause-expressions c = values_lie

pub returns-clause-conditions : goal.returns-clause-conditions
returns-clause-conditions c = conditions_decided

pub returns-clause-definitions : goal.returns-clause-definitions
returns-clause-definitions c = definitions_defined
