use Rattle.std.proofs.Common.{◌≤◌, ◌<◌, ◌^◌, All, List, length, ◌∙◌, subst, arith, take}
use Rattle.std.proofs.lemmas.List.{take_all}
use Rattle.std.proofs.lemmas.List.Elements.{All-more}
use Rattle.sat_clauses.specs.Literal.{Literal}
use Rattle.sat_clauses.specs.Derivation.{IsUpTo}
use Rattle.cut_frames.proofs.highest.highest.Goals as goal
use Rattle.sat_simplify.proofs.UnreadLaws.{all_raised, lists_raised}

pub loop-clause-preserved : goal.loop-clause-preserved
loop-clause-preserved c =
    let most = c.max-most.result in
    let cs = c.as_slice-clause-items.result.now in
    let more : c.loop-clause.most ≤ most = grind arith in
    let here : c.highest_of.result ≤ most = grind arith in
    let low_here : c.highest_of.result < 2 ^ 32 = c.highest_of.ensures.low in
    let low_before : c.loop-clause.most < 2 ^ 32 = c.loop-clause.invariant.low in
    record {
      up_to = All-more (All (IsUpTo most)) cs c.loop-clause.clause-index c.clause-item.result c.loop-clause-test.true
          (lists_raised c.loop-clause.most most (take c.loop-clause.clause-index cs) more c.loop-clause.invariant.up_to)
          (subst (λ (xs : List Literal). All (IsUpTo most) xs) (c.lits.ensures ∙ c.clause-item.is) (all_raised c.highest_of.result most c.lits.result.now here c.highest_of.ensures.up_to));
      low = grind (arith, low_here, low_before);
    }

pub returns-clause-up_to : goal.returns-clause-up_to
returns-clause-up_to c =
    let cs = c.as_slice-clause-items.result.now in
    let over : length cs ≤ c.loop-clause.clause-index = omega arith in
    subst (All (All (IsUpTo c.loop-clause.most))) (take_all c.loop-clause.clause-index cs over ∙ c.as_slice-clause-items.ensures) c.loop-clause.invariant.up_to
