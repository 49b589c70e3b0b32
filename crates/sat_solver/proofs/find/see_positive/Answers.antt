use Rattle.std.proofs.Common.{◌≤◌, All, length, subst, arith}
use Rattle.std.proofs.lemmas.List.{take_all}
use Rattle.std.proofs.lemmas.List.Elements.{All-more}
use Rattle.sat_clauses.specs.Literal.{Literal}
use Rattle.sat_solver.proofs.find.see_positive.Goals as goal

pub loop-lit-preserved : goal.loop-lit-preserved
loop-lit-preserved c =
    let P : Literal → Type 0 = λ m. 1 ≤ m.var in
    let here : 1 ≤ c.lit-item.result.var = omega (arith, c.var-var.ensures.value, c.var-var.ensures.positive) in
    All-more P c.args.lits.now c.loop-lit.lit-index c.lit-item.result c.loop-lit-test.true c.loop-lit.invariant (subst P c.lit-item.is here)

pub returns : goal.returns
returns c =
    let P : Literal → Type 0 = λ m. 1 ≤ m.var in
    let over : length c.args.lits.now ≤ c.loop-lit.lit-index = omega arith in
    subst (All P) (take_all c.loop-lit.lit-index c.args.lits.now over) c.loop-lit.invariant
