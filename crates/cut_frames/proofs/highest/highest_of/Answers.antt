use Rattle.std.proofs.Common.{◌≤◌, ◌<◌, ◌^◌, All, length, sym, subst, arith, take}
use Rattle.std.proofs.lemmas.List.{take_all}
use Rattle.std.proofs.lemmas.List.Elements.{All-more}
use Rattle.sat_clauses.specs.Literal.{Literal}
use Rattle.sat_clauses.specs.Derivation.{IsUpTo}
use Rattle.cut_frames.proofs.highest.highest_of.Goals as goal
use Rattle.sat_simplify.proofs.UnreadLaws.{all_raised}

pub loop-lit-preserved : goal.loop-lit-preserved
loop-lit-preserved c =
    let most = c.max-most.result in
    let more : c.loop-lit.most ≤ most = grind arith in
    let here : c.lit-item.result.var ≤ most = grind arith in
    let low_here : c.lit-item.result.var < 2 ^ 32 = subst (λ (l : Literal). l.var < 2 ^ 32) (sym c.lit-item.is) (c.requires c.loop-lit.lit-index c.lit-item.result c.loop-lit-test.true) in
    let low_before : c.loop-lit.most < 2 ^ 32 = c.loop-lit.invariant.low in
    record {
      up_to = All-more (IsUpTo most) c.args.lits.now c.loop-lit.lit-index c.lit-item.result c.loop-lit-test.true
          (all_raised c.loop-lit.most most (take c.loop-lit.lit-index c.args.lits.now) more c.loop-lit.invariant.up_to) (subst (IsUpTo most) c.lit-item.is here);
      low = grind (arith, low_here, low_before);
    }

pub returns-clause-up_to : goal.returns-clause-up_to
returns-clause-up_to c =
    let over : length c.args.lits.now ≤ c.loop-lit.lit-index = omega arith in
    subst (All (IsUpTo c.loop-lit.most)) (take_all c.loop-lit.lit-index c.args.lits.now over) c.loop-lit.invariant.up_to
