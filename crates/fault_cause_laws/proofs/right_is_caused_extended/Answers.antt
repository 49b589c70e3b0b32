use Rattle.fault_cause_laws.proofs.CausesExtendedCarried.{all_right_caused_extended, short_right_caused_extended}
use Rattle.fault_cause_laws.proofs.right_is_caused_extended.Goals as goal

pub returns-clause-all : goal.returns-clause-all
returns-clause-all c = all_right_caused_extended

pub returns-clause-short : goal.returns-clause-short
returns-clause-short c = short_right_caused_extended
