use Rattle.sat_clauses.proofs.TruthLemmas.{truth_of-True, truth_of-False, truth_of-Unit}
use Rattle.sat_clauses.proofs.truth.truth_of_lits.Goals as goal

pub returns-clause-true_where : goal.returns-clause-true_where
returns-clause-true_where c = rw c.judge.ensures (truth_of-True c.args.assign.now c.args.lits.now)

pub returns-clause-false_where : goal.returns-clause-false_where
returns-clause-false_where c = rw c.judge.ensures (truth_of-False c.args.assign.now c.args.lits.now)

pub returns-clause-unit_where : goal.returns-clause-unit_where
returns-clause-unit_where c = λ l. rw c.judge.ensures (truth_of-Unit c.args.assign.now c.args.lits.now l)
