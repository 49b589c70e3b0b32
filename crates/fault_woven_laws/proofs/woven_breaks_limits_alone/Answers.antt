use Rattle.fault_woven_laws.proofs.Woven.{woven_keeps_names, woven_breaks_limits, woven_accepted}
use Rattle.fault_woven_laws.proofs.woven_breaks_limits_alone.Goals as goal

pub returns-clause-names : goal.returns-clause-names
returns-clause-names c = woven_keeps_names

pub returns-clause-first : goal.returns-clause-first
returns-clause-first c = woven_breaks_limits

pub returns-clause-accepted : goal.returns-clause-accepted
returns-clause-accepted c = woven_accepted
