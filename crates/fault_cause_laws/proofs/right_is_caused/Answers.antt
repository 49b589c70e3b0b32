use Rattle.fault_cause_laws.proofs.Carried.{all_right, short_right}
use Rattle.fault_cause_laws.proofs.right_is_caused.Goals as goal

pub returns-clause-all : goal.returns-clause-all
returns-clause-all c = all_right

pub returns-clause-short : goal.returns-clause-short
returns-clause-short c = short_right
