use Rattle.std.proofs.Common.{◌≡◌, ◌≤◌, IsTrue, All, false, length, refl, sym, subst, arith}
use Rattle.std.proofs.lemmas.Bool.{false≢true, both_ways}
use Rattle.std.proofs.lemmas.List.{take_all}
use Rattle.std.proofs.lemmas.List.Elements.{All-more}
use Rattle.sat_clauses.specs.Hints.{LacksOpposite}
use Rattle.sat_clauses.proofs.hints.has_no_opposites.Goals as goal

pub returns-then-not-lacks_opposite : goal.returns-then-not-lacks_opposite
returns-then-not-lacks_opposite c =
    let lits = c.args.lits.now in
    let is_not : c.lacks_opposite.result ≡ false = grind arith in (
      (λ e. absurd (false≢true e)),
      (λ all. absurd (both_ways _ is_not (c.lacks_opposite.ensures.1 (subst (LacksOpposite lits) (sym c.lit-item.is) (all c.loop-lit.lit-index c.lit-item.result c.loop-lit-test.true))))),
    )

pub loop-lit-preserved : goal.loop-lit-preserved
loop-lit-preserved c =
    let lits = c.args.lits.now in
    let is : IsTrue c.lacks_opposite.result = grind arith in
    All-more (LacksOpposite lits) lits c.loop-lit.lit-index c.lit-item.result c.loop-lit-test.true c.loop-lit.invariant
    (subst (LacksOpposite lits) c.lit-item.is (c.lacks_opposite.ensures.0 is))

pub returns : goal.returns
returns c =
    let lits = c.args.lits.now in
    let over : length lits ≤ c.loop-lit.lit-index = omega arith in
    ((λ e. subst (All (LacksOpposite lits)) (take_all c.loop-lit.lit-index lits over) c.loop-lit.invariant), (λ all. refl))
