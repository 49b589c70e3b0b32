use Rattle.cert_making.proofs.Queries.{queries_derive, all_covered_derived}
use Rattle.cert_making.proofs.queries_derive.Goals as goal

pub returns-clause-each : goal.returns-clause-each
returns-clause-each c = queries_derive

pub returns-clause-all : goal.returns-clause-all
returns-clause-all c = all_covered_derived
