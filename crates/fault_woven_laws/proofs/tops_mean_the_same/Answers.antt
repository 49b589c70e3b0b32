use Rattle.fault_woven_laws.proofs.Meanings.{resolved_readable, means_same, tops_of_extensions}
use Rattle.fault_woven_laws.proofs.tops_mean_the_same.Goals as goal

pub returns-clause-readable : goal.returns-clause-readable
returns-clause-readable c = resolved_readable

pub returns-clause-values : goal.returns-clause-values
returns-clause-values c = means_same

pub returns-clause-extension : goal.returns-clause-extension
returns-clause-extension c = tops_of_extensions
