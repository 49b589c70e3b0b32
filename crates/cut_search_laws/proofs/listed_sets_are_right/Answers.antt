use Rattle.cut_search_laws.proofs.listed_sets_are_right.Goals as goal
use Rattle.cut_search_laws.proofs.Excluded.{clear_is_right, invariant_is_right, first_states_show}

pub returns : goal.returns
returns c = record { clear = clear_is_right; invariant = invariant_is_right; first = first_states_show }
