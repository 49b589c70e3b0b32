-- The search has so many variables.
use Rattle.std.proofs.Common.{◌≡◌}
use Rattle.test_search.proofs.searches.crowd_under.Given as goal

abbrev pub invariant-clauses : goal.invariant-clauses
invariant-clauses l = l.search.kept.vars ≡ 75
