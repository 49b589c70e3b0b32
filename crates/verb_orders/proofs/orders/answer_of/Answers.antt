use Rattle.std.proofs.Common.{Some, subst}
use Rattle.verb_orders.specs.ClaimSearch.{IsSearchOf}
use Rattle.verb_orders.proofs.orders.answer_of.Goals as goal

pub search-requires : goal.search-requires
search-requires g c = c.requires.staged

pub answer_against-found-requires-clause-staged : goal.answer_against-found-requires-clause-staged
answer_against-found-requires-clause-staged g c = c.requires.staged

pub answer_against-found-requires-clause-trace : goal.answer_against-found-requires-clause-trace
answer_against-found-requires-clause-trace g c = c.requires.trace

pub answer_against-found-requires-clause-searched : goal.answer_against-found-requires-clause-searched
answer_against-found-requires-clause-searched g c = subst (λ r. IsSearchOf c.args.staged.now (Some r) c.args.depth c.in_ok-other.other) c.relation_of-relation.ensures c.in_ok-other.ensures

pub returns : goal.returns
returns g c = c.answer_against-found.ensures
