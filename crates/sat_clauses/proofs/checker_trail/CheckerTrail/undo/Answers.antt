use Rattle.std.proofs.Common.{arith}
use Rattle.sat_clauses.proofs.DeriveTrailLemmas.{all_free-from_unlisted, count-all_free}
use Rattle.sat_clauses.proofs.checker_trail.CheckerTrail.undo.Goals as goal

pub invariant_of-self : goal.invariant_of-self
invariant_of-self c =
    let a = c.loop-var.self-inside.assign in
    let free = all_free-from_unlisted a c.loop-var.self-inside.set.items (grind arith) c.loop-var.invariant.listed in
    grind (arith, count-all_free a free)

pub returns : goal.returns
returns c =
    let a = c.loop-var.self-inside.assign in
    let free = all_free-from_unlisted a c.loop-var.self-inside.set.items (grind arith) c.loop-var.invariant.listed in
    grind arith
