use Rattle.std.proofs.Common.{◌≡◌, ◌≤◌, IsTrue, All, false, refl, arith}
use Rattle.std.proofs.lemmas.Bool.{false≢true, both_ways}
use Rattle.cert_derivations.specs.Marks.{LacksIn}
use Rattle.cert_derivations.proofs.MarkLaws.{lacks_in_each, lacks_in_all}
use Rattle.cert_derivations.proofs.marks.lack_opposites.Goals as goal
use Rattle.base_values.proofs.NumberLaws.{one_more}

pub returns-then-not-lack_opposites_in : goal.returns-then-not-lack_opposites_in
returns-then-not-lack_opposites_in c =
    let is_not : c.lack_opposites_in.result ≡ false = grind arith in
    ((λ e. absurd (false≢true e)), (λ h. absurd (both_ways _ is_not (c.lack_opposites_in.ensures.1 (lacks_in_each c.args.lits.now c.loop-window.window h)))))

pub loop-window-preserved : goal.loop-window-preserved
loop-window-preserved c =
    let is : IsTrue c.lack_opposites_in.result = grind arith in
    one_more (λ w. All (LacksIn w c.args.lits.now) c.args.lits.now) c.loop-window.window c.loop-window.invariant (c.lack_opposites_in.ensures.0 is)

pub returns : goal.returns
returns c =
    let over : c.args.windows ≤ c.loop-window.window = omega arith in
    ((λ e. lacks_in_all c.args.lits.now c.args.windows c.loop-window.window over c.requires c.loop-window.invariant), (λ h. refl))
