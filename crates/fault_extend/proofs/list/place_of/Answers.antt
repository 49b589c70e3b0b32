use Rattle.std.proofs.Common.{arith}
use Rattle.fault_extend.proofs.list.place_of.Goals as goal
use Rattle.std.proofs.lemmas.Option.{slice_get_within as within}

pub unreachable-requires : goal.unreachable-requires
unreachable-requires c =
    let there = c.loop-place.invariant in
    let below = within c.args.variables.now there.number there.has.variable there.has.is in
    absurd (omega (arith, below, there.after, c.loop-place-test.false))
