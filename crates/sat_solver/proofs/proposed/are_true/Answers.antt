use Rattle.std.proofs.Common.{◌≡◌, ◌≤◌, All, Some, true, length, subst, arith}
use Rattle.std.proofs.lemmas.List.{take_all}
use Rattle.std.proofs.lemmas.List.Elements.{All-more}
use Rattle.sat_clauses.specs.Literal.{Literal}
use Rattle.sat_clauses.specs.Assignment.{value_of}
use Rattle.sat_solver.proofs.proposed.are_true.Goals as goal

pub loop-lit-preserved : goal.loop-lit-preserved
loop-lit-preserved c =
    let lits = c.args.lits.now in
    let P : Literal → Type 0 = λ m. value_of c.args.assign.now m ≡ Some true in
    let here : value_of c.args.assign.now c.lit-item.result ≡ Some true = grind arith in
    All-more P lits c.loop-lit.lit-index c.lit-item.result c.loop-lit-test.true c.loop-lit.invariant (subst P c.lit-item.is here)

pub returns : goal.returns
returns c =
    let lits = c.args.lits.now in
    let P : Literal → Type 0 = λ m. value_of c.args.assign.now m ≡ Some true in
    let over : length lits ≤ c.loop-lit.lit-index = omega arith in
    λ e. subst (All P) (take_all c.loop-lit.lit-index lits over) c.loop-lit.invariant
