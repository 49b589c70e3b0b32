use Rattle.std.proofs.Common.{sym, subst}
use Rattle.cut_search_laws.specs.FlatSearch.{AreHistory, IsClauseOf}
use Rattle.cut_search_laws.proofs.HistoryTells.{history_serves}
use Rattle.cut_search_laws.proofs.Clauses.{opposites_are_clause}
use Rattle.cut_model_search.specs.FaultyModels.{flat_in, modes_in, event_in, problem_in}
use Rattle.cut_model_search.proofs.lists.FaultyModelEncoded.set_clause.Goals as goal

pub returns : goal.returns
returns c =
    let v = c.args.self.now in
    subst (IsClauseOf (problem_in v) c.args.set.now) (sym c.in_ok-clause.ensures)
    (opposites_are_clause (problem_in v) c.literals.result.now c.args.set.now (subst (AreHistory (problem_in v)) (sym c.literals.ensures) (history_serves (flat_in v) (modes_in v) (event_in v))) c.requires)
