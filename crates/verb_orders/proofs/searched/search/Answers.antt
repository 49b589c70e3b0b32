use Rattle.verb_orders.proofs.searched.search.Goals as goal

pub analysed-requires-clause-none : goal.analysed-requires-clause-none
analysed-requires-clause-none g c = c.requires.none

pub analysed-requires-clause-searchable : goal.analysed-requires-clause-searchable
analysed-requires-clause-searchable g c = c.in_ok-top.ensures.searchable

pub returns : goal.returns
returns g c = record { speaks = c.in_ok-top.ensures.speaks; searchable = c.in_ok-top.ensures.searchable; answer = c.in_ok-analysis.ensures }
