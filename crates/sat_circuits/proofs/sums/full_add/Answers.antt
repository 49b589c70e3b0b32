use Rattle.std.proofs.Common.{refl}
use Rattle.sat_circuits.specs.Circuit.{after}
use Rattle.sat_circuits.specs.Meaning.{StopsWithin}
use Rattle.sat_circuits.proofs.Extension.{OnErr-from, StopsWithin-here, StopsWithin-later}
use Rattle.sat_circuits.proofs.Rows.{gates_begin}
use Rattle.sat_circuits.specs.Sums.{full_adder}
use Rattle.sat_circuits.proofs.sums.full_add.Goals as goal

pub returns-in_err-t-clause-err : goal.returns-in_err-t-clause-err
unfolding full_adder
returns-in_err-t-clause-err c =
    let stops : StopsWithin c.args.g.now c.xor.new.self (full_adder c.args.x c.args.y c.args.carry c.args.g.now).0 =
    StopsWithin-here _ _ _ _ c.in_err-t.ensures.err (search gates_begin)
    in
    OnErr-from _ _ stops

pub returns-in_err-sum-clause-err : goal.returns-in_err-sum-clause-err
unfolding full_adder
returns-in_err-sum-clause-err c =
    let stops : StopsWithin c.args.g.now c.xor-2.new.self (full_adder c.args.x c.args.y c.args.carry c.args.g.now).0 =
    StopsWithin-later _ _ _ _ _ _ c.in_ok-t.ensures.exact c.in_ok-t.ensures.value.extends.begins
    (StopsWithin-here _ _ _ _ c.in_err-sum.ensures.err (search gates_begin))
    in
    OnErr-from _ _ stops

pub returns-in_err-both-clause-err : goal.returns-in_err-both-clause-err
unfolding full_adder
returns-in_err-both-clause-err c =
    let stops : StopsWithin c.args.g.now c.and.new.self (full_adder c.args.x c.args.y c.args.carry c.args.g.now).0 =
    StopsWithin-later _ _ _ _ _ _ c.in_ok-t.ensures.exact c.in_ok-t.ensures.value.extends.begins
    (StopsWithin-later _ _ _ _ _ _ c.in_ok-sum.ensures.exact c.in_ok-sum.ensures.value.extends.begins
    (StopsWithin-here _ _ _ _ c.in_err-both.ensures.err (search gates_begin)))
    in
    OnErr-from _ _ stops

pub returns-in_err-passed-clause-err : goal.returns-in_err-passed-clause-err
unfolding full_adder
returns-in_err-passed-clause-err c =
    let stops : StopsWithin c.args.g.now c.and-2.new.self (full_adder c.args.x c.args.y c.args.carry c.args.g.now).0 =
    StopsWithin-later _ _ _ _ _ _ c.in_ok-t.ensures.exact c.in_ok-t.ensures.value.extends.begins
    (StopsWithin-later _ _ _ _ _ _ c.in_ok-sum.ensures.exact c.in_ok-sum.ensures.value.extends.begins
    (StopsWithin-later _ _ _ _ _ _ c.in_ok-both.ensures.exact c.in_ok-both.ensures.value.extends.begins
    (StopsWithin-here _ _ _ _ c.in_err-passed.ensures.err (search gates_begin))))
    in
    OnErr-from _ _ stops

pub returns-in_err-carry-clause-err : goal.returns-in_err-carry-clause-err
unfolding full_adder
returns-in_err-carry-clause-err c =
    let stops : StopsWithin c.args.g.now c.or.new.self (full_adder c.args.x c.args.y c.args.carry c.args.g.now).0 =
    StopsWithin-later _ _ _ _ _ _ c.in_ok-t.ensures.exact c.in_ok-t.ensures.value.extends.begins
    (StopsWithin-later _ _ _ _ _ _ c.in_ok-sum.ensures.exact c.in_ok-sum.ensures.value.extends.begins
    (StopsWithin-later _ _ _ _ _ _ c.in_ok-both.ensures.exact c.in_ok-both.ensures.value.extends.begins
    (StopsWithin-later _ _ _ _ _ _ c.in_ok-passed.ensures.exact c.in_ok-passed.ensures.value.extends.begins
    (StopsWithin-here _ _ _ _ c.in_err-carry.ensures.err (search gates_begin)))))
    in
    OnErr-from _ _ stops

pub returns-clause-exact : goal.returns-clause-exact
unfolding full_adder after
returns-clause-exact c =
    rw (c.in_ok-t.ensures.exact, c.in_ok-sum.ensures.exact, c.in_ok-both.ensures.exact, c.in_ok-passed.ensures.exact, c.in_ok-carry.ensures.exact) refl
