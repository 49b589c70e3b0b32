use Rattle.std.proofs.Common.{◌+◌, ◌*◌, [], ◌∷◌, length, drop, arith}
use Rattle.std.specs.Prelude.{zip}
use Rattle.sat_circuits.proofs.Extension.{OnErr-from}
use Rattle.sat_circuits.proofs.Turns.{Turns-first}
use Rattle.sat_circuits.specs.Sums.{sum_step}
use Rattle.sat_circuits.proofs.WordMeans.{length-pairs}
use Rattle.sat_circuits.proofs.SumMeans.{SumShape, sum-first, sum_loop-end, sum_loop-here, sum_loop-next, sum_loop-stops, sum_loop-between}
use Rattle.sat_circuits.proofs.sums.sum.Goals as goal

pub loop-i-init : goal.loop-i-init
loop-i-init c =
    rw c.new-sum.ensures
    (Turns-first sum_step (SumShape (length c.args.a.now) (c.args.g.now.free + 5 * length c.args.a.now)) (zip c.args.a.now c.args.b.now) ([], c.args.carry) c.args.g.now
    (sum-first c.args.a.now c.args.b.now c.args.carry c.args.g.now c.requires.same c.requires.left c.requires.right c.requires.carry))

pub full_add-requires-clause-left : goal.full_add-requires-clause-left
full_add-requires-clause-left c =
    (sum_loop-here c.args.a.now c.args.b.now c.args.carry c.args.g.now _ _ c.loop-i.sum c.loop-i.i c.loop-i.carry c.loop-i.g c.loop-i.invariant _ _ c.at.ensures c.at-in-loop-i.ensures).pairs.0.0

pub full_add-requires-clause-right : goal.full_add-requires-clause-right
full_add-requires-clause-right c =
    (sum_loop-here c.args.a.now c.args.b.now c.args.carry c.args.g.now _ _ c.loop-i.sum c.loop-i.i c.loop-i.carry c.loop-i.g c.loop-i.invariant _ _ c.at.ensures c.at-in-loop-i.ensures).pairs.0.1

pub full_add-requires-clause-room : goal.full_add-requires-clause-room
full_add-requires-clause-room c =
    let here : SumShape _ _ ((c.at.result.now, c.at-in-loop-i.result.now) ∷ drop (c.loop-i.i + 1) (zip c.args.a.now c.args.b.now)) c.loop-i.g (c.loop-i.sum, c.loop-i.carry) =
    sum_loop-here c.args.a.now c.args.b.now c.args.carry c.args.g.now (length c.args.a.now) (c.args.g.now.free + 5 * length c.args.a.now) c.loop-i.sum c.loop-i.i c.loop-i.carry c.loop-i.g
    c.loop-i.invariant _ _ c.at.ensures c.at-in-loop-i.ensures
    in
    omega (arith, here.room, c.requires.room)

pub returns-in_err-bit-clause-err : goal.returns-in_err-bit-clause-err
returns-in_err-bit-clause-err c =
    OnErr-from _ _
    (sum_loop-stops c.args.a.now c.args.b.now c.args.carry c.args.g.now _ _ c.loop-i.sum c.loop-i.i c.loop-i.carry c.loop-i.g c.loop-i.invariant _ _ c.at.ensures c.at-in-loop-i.ensures
    c.full_add.new.g c.in_err-bit.ensures.err)

pub returns-in_err-push-clause-err : goal.returns-in_err-push-clause-err
returns-in_err-push-clause-err c =
    OnErr-from _ _
    (sum_loop-between c.args.a.now c.args.b.now c.args.carry c.args.g.now _ _ _ _ _ c.full_add.new.g
    (sum_loop-next c.args.a.now c.args.b.now c.args.carry c.args.g.now _ _ c.loop-i.sum c.loop-i.i c.loop-i.carry c.loop-i.g c.loop-i.invariant _ _ c.at.ensures c.at-in-loop-i.ensures
    c.full_add.new.g c.in_ok-bit.bit c.in_ok-bit.next c.in_ok-bit.ensures.exact))

pub loop-i-preserved : goal.loop-i-preserved
loop-i-preserved c =
    rw c.in_ok-push.ensures.ok
    (sum_loop-next c.args.a.now c.args.b.now c.args.carry c.args.g.now _ _ c.loop-i.sum c.loop-i.i c.loop-i.carry c.loop-i.g c.loop-i.invariant _ _ c.at.ensures c.at-in-loop-i.ensures
    c.full_add.new.g c.in_ok-bit.bit c.in_ok-bit.next c.in_ok-bit.ensures.exact)

pub returns-clause-exact : goal.returns-clause-exact
returns-clause-exact c =
    sum_loop-end c.args.a.now c.args.b.now c.args.carry c.args.g.now _ _ c.loop-i.sum c.loop-i.i c.loop-i.carry c.loop-i.g c.loop-i.invariant
    (omega (arith, length-pairs c.args.a.now c.args.b.now c.requires.same))
