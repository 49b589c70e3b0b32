use Rattle.cut_search_laws.proofs.clauses_list_sets.Goals as goal
use Rattle.cut_search_laws.proofs.Clauses.{opposites_are_clause, clause_lists_set}

pub returns : goal.returns
returns c = record { opposites = opposites_are_clause; lists = clause_lists_set }
