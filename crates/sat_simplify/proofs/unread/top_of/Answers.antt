use Rattle.std.proofs.Common.{◌≤◌, All, length, subst, arith, take}
use Rattle.std.proofs.lemmas.List.{take_all}
use Rattle.std.proofs.lemmas.List.Elements.{All-more}
use Rattle.sat_clauses.specs.Derivation.{IsUpTo}
use Rattle.sat_simplify.proofs.UnreadLaws.{all_raised}
use Rattle.sat_simplify.proofs.unread.top_of.Goals as goal

pub loop-lit-preserved : goal.loop-lit-preserved
loop-lit-preserved c =
    let most = c.max-most.result in
    let more : c.loop-lit.most ≤ most = grind arith in
    let here : c.lit-item.result.var ≤ most = grind arith in
    let before : c.args.top ≤ c.loop-lit.most = c.loop-lit.invariant.least in
    record {
      least = grind (arith, more, before);
      up_to = All-more (IsUpTo most) c.args.lits.now c.loop-lit.lit-index c.lit-item.result c.loop-lit-test.true
          (all_raised c.loop-lit.most most (take c.loop-lit.lit-index c.args.lits.now) more c.loop-lit.invariant.up_to) (subst (IsUpTo most) c.lit-item.is here);
    }

pub returns-clause-up_to : goal.returns-clause-up_to
returns-clause-up_to c =
    let over : length c.args.lits.now ≤ c.loop-lit.lit-index = omega arith in
    subst (All (IsUpTo c.loop-lit.most)) (take_all c.loop-lit.lit-index c.args.lits.now over) c.loop-lit.invariant.up_to
