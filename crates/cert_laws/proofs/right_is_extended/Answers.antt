use Rattle.cert_laws.proofs.Carried.{flat_traces_cut, all_right_extended, short_right_extended}
use Rattle.cert_laws.proofs.Own.{models_own}
use Rattle.cert_laws.proofs.right_is_extended.Goals as goal

pub returns-clause-cut : goal.returns-clause-cut
returns-clause-cut c = flat_traces_cut

pub returns-clause-all : goal.returns-clause-all
returns-clause-all c = all_right_extended

pub returns-clause-short : goal.returns-clause-short
returns-clause-short c = short_right_extended

pub returns-clause-own : goal.returns-clause-own
returns-clause-own c = models_own
