use Rattle.fault_woven_laws.proofs.Names.{values_kept}
use Rattle.fault_woven_laws.proofs.Resolving.{woven_resolves}
use Rattle.fault_woven_laws.proofs.Judging.{woven_alike, history_alike, none_refused}
use Rattle.fault_woven_laws.proofs.tops_are_kept.Goals as goal

pub returns-clause-names : goal.returns-clause-names
returns-clause-names c = values_kept

pub returns-clause-resolved : goal.returns-clause-resolved
returns-clause-resolved c = woven_resolves

pub returns-clause-kinds : goal.returns-clause-kinds
returns-clause-kinds c = woven_alike

pub returns-clause-history : goal.returns-clause-history
returns-clause-history c = history_alike

pub returns-clause-refused : goal.returns-clause-refused
returns-clause-refused c = none_refused
