use Rattle.std.proofs.Common.{◌≡◌, IsTrue, false, arith}
use Rattle.std.proofs.lemmas.Bool.{both_ways}
use Rattle.cert_derivations.proofs.CoveringLaws.{at_place, covered_at, not_later}
use Rattle.cert_derivations.proofs.covering.covering_in.Goals as goal

pub returns-then-is_within-clause-found : goal.returns-then-is_within-clause-found
returns-then-is_within-clause-found c =
    let is : IsTrue c.is_within.result = grind arith in (
      omega (arith, c.loop-i-test.true, c.requires.within),
      covered_at c.args.checker.now.clauses c.args.needed.now c.loop-i.i c.clause.result.now (at_place c.args.checker.now.clauses c.loop-i.i c.clause.result.now c.clause.ensures) (c.is_within.ensures.0 is),
    )

pub loop-i-preserved : goal.loop-i-preserved
loop-i-preserved c =
    let is_not : c.is_within.result ≡ false = grind arith in
    not_later c.args.checker.now.clauses c.args.needed.now c.args.start c.loop-i.i c.clause.result.now (at_place c.args.checker.now.clauses c.loop-i.i c.clause.result.now c.clause.ensures)
    c.loop-i.invariant (λ h. both_ways _ is_not (c.is_within.ensures.1 h))
