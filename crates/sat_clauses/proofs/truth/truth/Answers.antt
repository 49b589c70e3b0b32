use Rattle.sat_clauses.proofs.TruthLemmas.{truth_of-Unit}
use Rattle.sat_clauses.proofs.truth.truth.Goals as goal

pub returns-clause-unit_where : goal.returns-clause-unit_where
returns-clause-unit_where c = λ l. rw (c.truth_of_lits.ensures.value, c.lits.ensures) (truth_of-Unit c.args.assign.now c.args.clause.now l)
