use Rattle.verb_orders.proofs.orders.answer.Goals as goal

pub search-requires : goal.search-requires
search-requires g c = c.requires

pub answer_from-found-requires-clause-staged : goal.answer_from-found-requires-clause-staged
answer_from-found-requires-clause-staged g c = c.requires

pub answer_from-found-requires-clause-searched : goal.answer_from-found-requires-clause-searched
answer_from-found-requires-clause-searched g c = c.in_ok-some.ensures

pub returns : goal.returns
returns g c = c.answer_from-found.ensures
