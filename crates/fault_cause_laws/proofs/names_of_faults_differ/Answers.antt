use Rattle.fault_cause_laws.proofs.Names.{names_differ, names_tell, names_mean_one}
use Rattle.fault_cause_laws.proofs.Causes.{causes_read_as_one}
use Rattle.fault_cause_laws.proofs.FaultNamesEvents.{event_names_differ}
use Rattle.fault_cause_laws.proofs.Examples.{lamps_have_two}
use Rattle.fault_cause_laws.proofs.names_of_faults_differ.Goals as goal

pub returns-clause-names : goal.returns-clause-names
returns-clause-names c = names_differ

pub returns-clause-faults : goal.returns-clause-faults
returns-clause-faults c = names_tell

pub returns-clause-numbers : goal.returns-clause-numbers
returns-clause-numbers c = names_mean_one

pub returns-clause-causes : goal.returns-clause-causes
returns-clause-causes c = causes_read_as_one

pub returns-clause-events : goal.returns-clause-events
returns-clause-events c = event_names_differ

pub returns-clause-example : goal.returns-clause-example
returns-clause-example c = lamps_have_two
