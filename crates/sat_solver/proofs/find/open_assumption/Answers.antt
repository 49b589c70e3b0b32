use Rattle.std.proofs.Common.{◌≡◌, ◌≤◌, All, Some, true, length, subst, arith}
use Rattle.std.proofs.lemmas.List.{take_all}
use Rattle.std.proofs.lemmas.List.Elements.{All-more}
use Rattle.sat_clauses.specs.Literal.{Literal}
use Rattle.sat_clauses.specs.Assignment.{value_of}
use Rattle.sat_solver.proofs.find.open_assumption.Goals as goal

pub loop-place-preserved : goal.loop-place-preserved
loop-place-preserved c =
    let P : Literal → Type 0 = λ p. value_of c.args.assign.now p ≡ Some true in
    let here : value_of c.args.assign.now c.index-assumptions-place.result ≡ Some true = grind arith in
    All-more P c.args.assumptions.now c.loop-place.place c.index-assumptions-place.result c.loop-place-test.true c.loop-place.invariant
    (subst P c.index-assumptions-place.is here)

pub returns-clause-none : goal.returns-clause-none
returns-clause-none c same =
    let P : Literal → Type 0 = λ p. value_of c.args.assign.now p ≡ Some true in
    let over : length c.args.assumptions.now ≤ c.loop-place.place = omega arith in
    subst (All P) (take_all c.loop-place.place c.args.assumptions.now over) c.loop-place.invariant
