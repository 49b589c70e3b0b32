use Rattle.verb_run.proofs.RecheckedLaws.{analyses_are_accepted, causes_are_accepted, orders_are_accepted}
use Rattle.verb_run.proofs.run.certificates_are_accepted.Goals as goal

pub returns-clause-analyses : goal.returns-clause-analyses
returns-clause-analyses c = analyses_are_accepted

pub returns-clause-causes : goal.returns-clause-causes
returns-clause-causes c = causes_are_accepted

pub returns-clause-orders : goal.returns-clause-orders
returns-clause-orders c = orders_are_accepted
