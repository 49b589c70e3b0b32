use Rattle.cut_reach_laws.proofs.Events.{caused_searchable}
use Rattle.cut_reach_laws.proofs.caused_are_searchable.Goals as goal

pub returns : goal.returns
returns c = caused_searchable
