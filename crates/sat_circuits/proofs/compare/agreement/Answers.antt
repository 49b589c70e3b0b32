use Rattle.std.proofs.Common.{◌+◌, ◌*◌, ◌∷◌, length, drop, arith}
use Rattle.std.specs.Prelude.{zip}
use Rattle.sat_circuits.proofs.Extension.{OnErr-from}
use Rattle.sat_circuits.proofs.Turns.{Turns-first}
use Rattle.sat_circuits.specs.Sums.{equal_step}
use Rattle.sat_circuits.proofs.WordMeans.{length-pairs}
use Rattle.sat_circuits.proofs.TestMeans.{EqualShape, equal-first, equal_loop-end, equal_loop-here, equal_loop-first, equal_loop-second, equal_loop-next}
use Rattle.sat_circuits.proofs.compare.agreement.Goals as goal

pub loop-i-init : goal.loop-i-init
loop-i-init c =
    Turns-first equal_step (EqualShape (c.args.g.now.free + 2 * length c.args.a.now)) (zip c.args.a.now c.args.b.now) c.args.truth c.args.g.now
    (equal-first c.args.a.now c.args.b.now c.args.truth c.args.g.now c.requires.same c.requires.left c.requires.right c.requires.truth)

pub xor-requires-clause-left : goal.xor-requires-clause-left
xor-requires-clause-left c =
    (equal_loop-here c.args.a.now c.args.b.now c.args.truth c.args.g.now (c.args.g.now.free + 2 * length c.args.a.now) c.loop-i.i c.loop-i.agree c.loop-i.g c.loop-i.invariant c.at.result.now c.at-in-loop-i.result.now c.at.ensures c.at-in-loop-i.ensures).pairs.0.0

pub xor-requires-clause-right : goal.xor-requires-clause-right
xor-requires-clause-right c =
    (equal_loop-here c.args.a.now c.args.b.now c.args.truth c.args.g.now (c.args.g.now.free + 2 * length c.args.a.now) c.loop-i.i c.loop-i.agree c.loop-i.g c.loop-i.invariant c.at.result.now c.at-in-loop-i.result.now c.at.ensures c.at-in-loop-i.ensures).pairs.0.1

pub xor-requires-clause-room : goal.xor-requires-clause-room
xor-requires-clause-room c =
    let here : EqualShape _ ((c.at.result.now, c.at-in-loop-i.result.now) ∷ drop (c.loop-i.i + 1) (zip c.args.a.now c.args.b.now)) c.loop-i.g c.loop-i.agree =
    equal_loop-here c.args.a.now c.args.b.now c.args.truth c.args.g.now (c.args.g.now.free + 2 * length c.args.a.now) c.loop-i.i c.loop-i.agree c.loop-i.g c.loop-i.invariant c.at.result.now c.at-in-loop-i.result.now c.at.ensures c.at-in-loop-i.ensures
    in
    omega (arith, here.room, c.requires.room)

pub returns-in_err-differ-clause-err : goal.returns-in_err-differ-clause-err
returns-in_err-differ-clause-err c =
    OnErr-from _ _
    (equal_loop-first c.args.a.now c.args.b.now c.args.truth c.args.g.now (c.args.g.now.free + 2 * length c.args.a.now) c.loop-i.i c.loop-i.agree c.loop-i.g c.loop-i.invariant c.at.result.now c.at-in-loop-i.result.now c.at.ensures c.at-in-loop-i.ensures c.xor.new.self c.in_err-differ.ensures.err)

pub and-requires-clause-room : goal.and-requires-clause-room
and-requires-clause-room c =
    let here : EqualShape _ ((c.at.result.now, c.at-in-loop-i.result.now) ∷ drop (c.loop-i.i + 1) (zip c.args.a.now c.args.b.now)) c.loop-i.g c.loop-i.agree =
    equal_loop-here c.args.a.now c.args.b.now c.args.truth c.args.g.now (c.args.g.now.free + 2 * length c.args.a.now) c.loop-i.i c.loop-i.agree c.loop-i.g c.loop-i.invariant c.at.result.now c.at-in-loop-i.result.now c.at.ensures c.at-in-loop-i.ensures
    in
    omega (arith, here.room, c.requires.room, c.in_ok-differ.ensures.next)

pub returns-in_err-agree-clause-err : goal.returns-in_err-agree-clause-err
returns-in_err-agree-clause-err c =
    OnErr-from _ _
    (equal_loop-second c.args.a.now c.args.b.now c.args.truth c.args.g.now (c.args.g.now.free + 2 * length c.args.a.now) c.loop-i.i c.loop-i.agree c.loop-i.g c.loop-i.invariant c.at.result.now c.at-in-loop-i.result.now c.at.ensures c.at-in-loop-i.ensures c.xor.new.self c.in_ok-differ.differ c.in_ok-differ.ensures.exact c.and.new.self (rw (← c.neg.ensures) c.in_err-agree.ensures.err))

pub loop-i-preserved : goal.loop-i-preserved
loop-i-preserved c =
    equal_loop-next c.args.a.now c.args.b.now c.args.truth c.args.g.now (c.args.g.now.free + 2 * length c.args.a.now) c.loop-i.i c.loop-i.agree c.loop-i.g c.loop-i.invariant c.at.result.now c.at-in-loop-i.result.now c.at.ensures c.at-in-loop-i.ensures c.xor.new.self c.in_ok-differ.differ c.in_ok-differ.ensures.exact c.and.new.self c.in_ok-agree.agree (rw (← c.neg.ensures) c.in_ok-agree.ensures.exact)

pub returns-clause-exact : goal.returns-clause-exact
returns-clause-exact c =
    equal_loop-end c.args.a.now c.args.b.now c.args.truth c.args.g.now _ c.loop-i.i c.loop-i.agree c.loop-i.g c.loop-i.invariant
    (omega (arith, length-pairs c.args.a.now c.args.b.now c.requires.same))
