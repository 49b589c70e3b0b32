use Rattle.cert_laws.proofs.LineReading.{counts_exact, sets_exact, clauses_exact, steps_exact}
use Rattle.cert_laws.proofs.readings_are_exact.Goals as goal

pub returns-clause-counts : goal.returns-clause-counts
returns-clause-counts c = counts_exact

pub returns-clause-sets : goal.returns-clause-sets
returns-clause-sets c = sets_exact

pub returns-clause-clauses : goal.returns-clause-clauses
returns-clause-clauses c = clauses_exact

pub returns-clause-steps : goal.returns-clause-steps
returns-clause-steps c = steps_exact
