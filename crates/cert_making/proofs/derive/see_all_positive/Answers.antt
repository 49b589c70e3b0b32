use Rattle.std.proofs.Common.{◌≡◌, ◌≤◌, All, length, get_or, sym, subst, arith}
use Rattle.std.proofs.lemmas.List.{take_all}
use Rattle.std.proofs.lemmas.List.Elements.{All-more}
use Rattle.std.proofs.lemmas.Option.{get_or_from_slice_get}
use Rattle.sat_clauses.specs.Literal.{Literal}
use Rattle.cert_making.specs.PartDerivations.{HasPositive}
use Rattle.cert_making.proofs.derive.see_all_positive.Goals as goal

pub loop-i-preserved : goal.loop-i-preserved
loop-i-preserved c =
    let steps = c.args.steps.now in
    let i = c.loop-i.i in
    let here : get_or steps i c.at.result.now ≡ c.at.result.now = get_or_from_slice_get steps i c.at.result.now c.at.result.now c.at.ensures in
    let positive : HasPositive c.at.result.now = subst (All (λ (l : Literal). 1 ≤ l.var)) c.lits.ensures c.see_positive.ensures in
    record {
      within = omega arith;
      positive = All-more HasPositive steps i c.at.result.now (omega arith) c.loop-i.invariant.positive (subst HasPositive (sym here) positive);
    }

pub returns : goal.returns
returns c =
    let over : length c.args.steps.now ≤ c.loop-i.i = omega arith in
    subst (All HasPositive) (take_all c.loop-i.i c.args.steps.now over) c.loop-i.invariant.positive
