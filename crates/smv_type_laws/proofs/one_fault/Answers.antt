use Rattle.smv_type_laws.proofs.Typed.{one_fault, typed_has_none}
use Rattle.smv_type_laws.proofs.Earliest.{fault_found, none_is_typed}
use Rattle.smv_type_laws.proofs.one_fault.Goals as goal

pub returns-clause-one : goal.returns-clause-one
returns-clause-one c = one_fault

pub returns-clause-none : goal.returns-clause-none
returns-clause-none c = typed_has_none

pub returns-clause-found : goal.returns-clause-found
returns-clause-found c = λ m. (fault_found m, none_is_typed m)
