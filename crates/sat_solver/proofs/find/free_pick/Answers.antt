use Rattle.std.proofs.Common.{refl}
use Rattle.sat_solver.proofs.find.free_pick.Goals as goal

pub returns-in-Some-clause-pick : goal.returns-in-Some-clause-pick
returns-in-Some-clause-pick c =
    let facts = c.in-Some.ensures.some c.in-Some.field-0 refl in
    (c.requires, record { var = c.in-Some.field-0; positive = facts.0; in_range = facts.1; free = facts.2 })
