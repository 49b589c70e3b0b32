-- The law is proved in `Staged`.
use Rattle.cut_reach_laws.proofs.Staged.{staged_searchable}
use Rattle.cut_reach_laws.proofs.staged_are_searchable.Goals as goal

pub returns : goal.returns
returns c = staged_searchable
