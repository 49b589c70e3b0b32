use Rattle.std.proofs.Common.{◌≤◌, IsTrue, All, Contains, length, subst, arith}
use Rattle.std.proofs.lemmas.List.{take_all}
use Rattle.std.proofs.lemmas.List.Elements.{All-more}
use Rattle.sat_clauses.specs.Literal.{Literal, opposite}
use Rattle.sat_solver.proofs.proposed.are_negated.Goals as goal

pub loop-lit-preserved : goal.loop-lit-preserved
loop-lit-preserved c =
    let lits = c.args.lits.now in
    let P : Literal → Type 0 = λ m. Contains c.args.assumptions.now (opposite m) in
    let is : IsTrue c.contains.result = grind arith in
    let here : Contains c.args.assumptions.now (opposite c.lit-item.result) = subst (Contains c.args.assumptions.now) c.neg.ensures (c.contains.ensures.0 is) in
    All-more P lits c.loop-lit.lit-index c.lit-item.result c.loop-lit-test.true c.loop-lit.invariant (subst P c.lit-item.is here)

pub returns : goal.returns
returns c =
    let lits = c.args.lits.now in
    let P : Literal → Type 0 = λ m. Contains c.args.assumptions.now (opposite m) in
    let over : length lits ≤ c.loop-lit.lit-index = omega arith in
    λ e. subst (All P) (take_all c.loop-lit.lit-index lits over) c.loop-lit.invariant
