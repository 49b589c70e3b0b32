use Rattle.cut_search_laws.proofs.paths_show_new_sets.Goals as goal
use Rattle.cut_search_laws.proofs.Paths.{path_is_lawful, path_is_found}

pub returns : goal.returns
returns c = record { lawful = path_is_lawful; found = path_is_found }
