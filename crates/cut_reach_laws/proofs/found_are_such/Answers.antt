use Rattle.cut_reach_laws.proofs.Such.{found_such, others_such}
use Rattle.cut_reach_laws.proofs.found_are_such.Goals as goal

pub returns-clause-found : goal.returns-clause-found
returns-clause-found c = found_such

pub returns-clause-others : goal.returns-clause-others
returns-clause-others c = others_such
