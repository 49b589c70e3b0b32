use Rattle.std.proofs.Common.{refl}
use Rattle.sat_circuits.specs.Circuit.{after}
use Rattle.sat_circuits.specs.Meaning.{StopsWithin}
use Rattle.sat_circuits.proofs.Extension.{OnErr-from, StopsWithin-here, StopsWithin-later}
use Rattle.sat_circuits.proofs.Rows.{or_gate-begins}
use Rattle.sat_circuits.specs.Counts.{count_gate}
use Rattle.sat_circuits.proofs.counts.count.Goals as goal

pub returns-in_err-passed-clause-err : goal.returns-in_err-passed-clause-err
unfolding count_gate
returns-in_err-passed-clause-err c =
    let stops : StopsWithin c.args.g.now c.and.new.self (count_gate c.args.l (c.args.more, c.args.fewer) c.args.g.now).0 =
    StopsWithin-here _ _ _ _ c.in_err-passed.ensures.err (λ q t. or_gate-begins c.args.more q t)
    in
    OnErr-from _ _ stops

pub returns-in_err-counter-clause-err : goal.returns-in_err-counter-clause-err
unfolding count_gate
returns-in_err-counter-clause-err c =
    let stops : StopsWithin c.args.g.now c.or.new.self (count_gate c.args.l (c.args.more, c.args.fewer) c.args.g.now).0 =
    StopsWithin-later _ _ _ _ _ _ c.in_ok-passed.ensures.exact c.in_ok-passed.ensures.value.extends.begins c.in_err-counter.ensures.err
    in
    OnErr-from _ _ stops

pub returns-clause-exact : goal.returns-clause-exact
unfolding count_gate after
returns-clause-exact c = rw (c.in_ok-passed.ensures.exact, c.in_ok-counter.ensures.exact) refl
