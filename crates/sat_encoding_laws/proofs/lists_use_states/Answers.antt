use Rattle.sat_encoding_laws.proofs.CleanLists.{lists_use_states}
use Rattle.sat_encoding_laws.proofs.SizeLists.{lists_small}
use Rattle.sat_encoding_laws.proofs.lists_use_states.Goals as goal

pub returns-clause-states : goal.returns-clause-states
returns-clause-states c = lists_use_states

pub returns-clause-small : goal.returns-clause-small
returns-clause-small c = lists_small
