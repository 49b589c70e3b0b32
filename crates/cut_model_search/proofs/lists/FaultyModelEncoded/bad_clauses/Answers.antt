use Rattle.cut_model_search.proofs.BadLists.{over_now, bad_for}
use Rattle.cut_model_search.proofs.lists.FaultyModelEncoded.bad_clauses.Goals as goal

pub returns-clause-over_now : goal.returns-clause-over_now
returns-clause-over_now c =
    over_now c.args.self.now c.can_be_searched.ensures c.args.size c.count.result c.min.result c.count.ensures.count c.min.ensures c.args.listed.now c.in_ok-clauses.clauses c.in_ok-clauses.ensures

pub returns-clause-bad : goal.returns-clause-bad
returns-clause-bad c =
    bad_for c.args.self.now c.can_be_searched.ensures c.args.size c.count.result c.min.result c.count.ensures.count c.min.ensures c.args.listed.now c.in_ok-clauses.clauses c.in_ok-clauses.ensures
