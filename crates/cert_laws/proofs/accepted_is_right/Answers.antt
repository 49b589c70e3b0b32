use Rattle.cert_laws.proofs.Certified.{certified_is_right}
use Rattle.cert_laws.proofs.Completeness.{certified_completeness, certified_minimal}
use Rattle.cert_laws.proofs.accepted_is_right.Goals as goal

pub returns-clause-flat : goal.returns-clause-flat
returns-clause-flat g c = certified_is_right g.R.TraceTexts.reads

pub returns-clause-extended : goal.returns-clause-extended
returns-clause-extended g c = certified_completeness g.R.TraceTexts.reads

pub returns-clause-minimal : goal.returns-clause-minimal
returns-clause-minimal g c = certified_minimal g.R.TraceTexts.reads
