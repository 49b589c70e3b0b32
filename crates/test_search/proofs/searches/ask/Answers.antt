use Rattle.std.proofs.Common.{rules}
use Rattle.test_search.proofs.searches.ask.Goals as goal

pub ask-requires : goal.ask-requires
ask-requires g c = record { can_assume = record { in_range = search rules; apart = c.has_no_opposites.ensures.0 c.if-not-has_no_opposites.false } }
