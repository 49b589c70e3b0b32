use Rattle.cut_text_laws.proofs.OneFault.{one_fault}
use Rattle.cut_text_laws.proofs.GivenHasNone.{given_has_none}
use Rattle.cut_text_laws.proofs.one_fault.Goals as goal

pub returns-clause-one : goal.returns-clause-one
returns-clause-one c = one_fault

pub returns-clause-none : goal.returns-clause-none
returns-clause-none c = given_has_none
