use Rattle.std.proofs.Common.{List, length, subst, ◌≤◌, arith}
use Rattle.std.proofs.lemmas.List.{take_all}
use Rattle.sat_clauses.specs.Literal.{Literal}
use Rattle.sat_solver.specs.Pick.{IsBest}
use Rattle.sat_solver.proofs.PickLemmas.{pick_from_best}
use Rattle.sat_solver.proofs.pick.pick.Goals as goal

pub returns : goal.returns
returns c =
    let t = c.args.trail.now in
    let lits = c.args.lits.now in
    let b = c.loop-lit.best in
    let over : length lits ≤ c.loop-lit.lit-index = omega arith in
    pick_from_best t.vars t.lits c.args.but lits b.code b.rank (subst (λ (x : List Literal). IsBest t.vars t.lits c.args.but x b.code b.rank) (take_all c.loop-lit.lit-index lits over) c.loop-lit.invariant)
