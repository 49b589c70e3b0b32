use Rattle.std.proofs.Common.{◌≡◌, ◌≤◌, IsTrue, All, false, length, refl, sym, subst, arith}
use Rattle.std.specs.Prelude.{Contains}
use Rattle.std.proofs.lemmas.Bool.{false≢true, both_ways}
use Rattle.std.proofs.lemmas.List.{take_all}
use Rattle.std.proofs.lemmas.List.Elements.{All-more}
use Rattle.cert_derivations.proofs.covering.is_within.Goals as goal

pub returns-then-not-is_needed : goal.returns-then-not-is_needed
returns-then-not-is_needed c =
    let needed = c.args.needed.now in
    let is_not : c.is_needed.result ≡ false = grind arith in (
      (λ e. absurd (false≢true e)),
      (λ all. absurd (both_ways _ is_not (c.is_needed.ensures.1 (subst (Contains needed) (sym c.lit-item.is) (all c.loop-lit.lit-index c.lit-item.result c.loop-lit-test.true))))),
    )

pub loop-lit-preserved : goal.loop-lit-preserved
loop-lit-preserved c =
    let needed = c.args.needed.now in
    let is : IsTrue c.is_needed.result = grind arith in
    All-more (Contains needed) c.args.clause.now c.loop-lit.lit-index c.lit-item.result c.loop-lit-test.true c.loop-lit.invariant
    (subst (Contains needed) c.lit-item.is (c.is_needed.ensures.0 is))

pub returns : goal.returns
returns c =
    let clause = c.args.clause.now in
    let over : length clause ≤ c.loop-lit.lit-index = omega arith in
    ((λ e. subst (All (Contains c.args.needed.now)) (take_all c.loop-lit.lit-index clause over) c.loop-lit.invariant), (λ all. refl))
