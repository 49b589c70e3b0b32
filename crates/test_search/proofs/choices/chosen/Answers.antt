use Rattle.std.proofs.Common.{refl}
use Rattle.test_search.proofs.choices.chosen.Goals as goal

-- the least free variable is a free one
pub choose-requires : goal.choose-requires
choose-requires g c =
    let facts = c.in-Some.ensures.some c.in-Some.field-0 refl in
    record { var = c.in-Some.field-0; positive = facts.0; in_range = facts.1; free = facts.2 }
