use Rattle.cut_reach_laws.proofs.Refuted.{empty_refute, found_reach, accepted_refute}
use Rattle.cut_reach_laws.proofs.without_faults.Goals as goal

pub returns-clause-empty : goal.returns-clause-empty
returns-clause-empty c = empty_refute

pub returns-clause-found : goal.returns-clause-found
returns-clause-found c = found_reach

pub returns-clause-accepted : goal.returns-clause-accepted
returns-clause-accepted c = accepted_refute
