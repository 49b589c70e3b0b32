use Rattle.cut_reach_laws.proofs.Said.{said, none_said}
use Rattle.cut_reach_laws.proofs.orders_are_said.Goals as goal

pub returns-clause-claimed : goal.returns-clause-claimed
returns-clause-claimed c = said

pub returns-clause-none : goal.returns-clause-none
returns-clause-none c = none_said
