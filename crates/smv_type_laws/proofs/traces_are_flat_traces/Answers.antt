use Rattle.smv_type_laws.proofs.TraceLaws.{domains_are, traces_are_those}
use Rattle.smv_type_laws.proofs.traces_are_flat_traces.Goals as goal

pub returns-clause-domains : goal.returns-clause-domains
returns-clause-domains c = domains_are

pub returns-clause-traces : goal.returns-clause-traces
returns-clause-traces c = traces_are_those
