use Rattle.cut_search.proofs.search.further.Goals as goal
use Rattle.cut_search.proofs.SearchLemmas.{goes_further}

pub returns-in_ok-list-in-Further-clause-gone : goal.returns-in_ok-list-in-Further-clause-gone
returns-in_ok-list-in-Further-clause-gone g c =
    goes_further (g.E.Encoded.problem c.args.model.now) c.args.bounds.size c.args.found.items c.in_ok-list-in-Further.list.items c.args.frames.now c.clear_all.new.frames c.advance.new.self.frames c.args.frames.now.system c.advance.new.self.system c.in_ok-clauses.field-0
    c.is_searched.ensures c.requires.between c.requires.system c.advance.ensures.numbered c.in_ok-clauses.ensures.frontier c.advance.ensures.stronger c.in-Further.is c.in_ok-clauses.ensures.advanced
    c.in_ok-list-in-Further.ensures.looking c.in_ok-list-in-Further.ensures.clear
