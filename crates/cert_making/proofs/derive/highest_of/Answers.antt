use Rattle.std.proofs.Common.{◌≤◌, ◌∙◌, max, length, sym, ap, arith}
use Rattle.std.proofs.lemmas.List.{at_drop_all}
use Rattle.cert_laws.specs.Acceptance.{highest_in}
use Rattle.cert_making.proofs.DeriveLemmas.{begins_highest_in, ends_highest}
use Rattle.cert_making.proofs.derive.highest_of.Goals as goal

pub loop-lit-init : goal.loop-lit-init
loop-lit-init c = record { positive = omega arith; all = begins_highest_in c.args.lits.now }

pub returns : goal.returns
returns c =
    let over : length c.args.lits.now ≤ c.loop-lit.lit-index = omega arith in
    ends_highest c.loop-lit.most (highest_in c.args.lits.now) c.loop-lit.invariant.positive
    (sym (ap (max c.loop-lit.most) (at_drop_all highest_in c.args.lits.now c.loop-lit.lit-index over)) ∙ c.loop-lit.invariant.all)
