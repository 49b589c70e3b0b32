use Rattle.cut_search_laws.proofs.chains_follow_frames.Goals as goal
use Rattle.cut_search_laws.proofs.Chains.{fixed_is_invariant, fewer_are_bad, chain_stays, chain_grows}

pub returns : goal.returns
returns c = record { fixed = fixed_is_invariant; fewer = fewer_are_bad; stays = chain_stays; grows = chain_grows }
