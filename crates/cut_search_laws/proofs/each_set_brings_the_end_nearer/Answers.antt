use Rattle.cut_search_laws.proofs.each_set_brings_the_end_nearer.Goals as goal
use Rattle.cut_search_laws.proofs.Ends.{search_ends}

pub returns : goal.returns
returns c = search_ends
