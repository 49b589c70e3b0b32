use Rattle.std.proofs.Common.{◌+◌, ◌*◌, ◌++◌, ◌∷◌, [], length, drop, sym, ◌∙◌, ap, arith}
use Rattle.std.specs.Prelude.{zip}
use Rattle.sat_circuits.proofs.Extension.{OnErr-from}
use Rattle.sat_circuits.specs.Counts.{count_gate}
use Rattle.sat_circuits.proofs.WordMeans.{MapShape, map_loop-start, map_loop-end, map_loop-between, map_loop-here, map_loop-next, map_loop-stops}
use Rattle.sat_circuits.proofs.CountMeans.{Countable-zip, counted, count_gate-maps, neighbours, neighbours-below, length-neighbours, count_step-stops, count_step-exact}
use Rattle.sat_circuits.proofs.counts.counted.Goals as goal
use Rattle.sat_circuits.proofs.QuotientMeans.{Choosable}

pub loop-i-init : goal.loop-i-init
loop-i-init c =
    rw c.new-next.ensures
    (map_loop-start (count_gate c.args.l) 2 (Choosable c.args.l) (counted c.args.l) (count_gate-maps c.args.l) (zip c.args.counters.now (drop 1 c.args.counters.now)) [] c.args.g.now
    (Countable-zip c.args.l c.args.g.now.free _ c.requires.right (neighbours-below c.args.g.now.free c.args.counters.now c.requires.left)) tt)

pub count-requires-clause-more : goal.count-requires-clause-more
count-requires-clause-more c = (map_loop-here (count_gate c.args.l) 2 (Choosable c.args.l) (counted c.args.l) (count_gate-maps c.args.l) (zip c.args.counters.now (drop 1 c.args.counters.now)) [] c.args.g.now _ _ c.loop-i.next c.loop-i.i c.loop-i.g c.loop-i.invariant (c.at.result.now, c.at-in-loop-i.result.now) (neighbours c.args.counters.now c.loop-i.i _ _ c.at.ensures c.at-in-loop-i.ensures)).items.0.0.0

pub count-requires-clause-fewer : goal.count-requires-clause-fewer
count-requires-clause-fewer c = (map_loop-here (count_gate c.args.l) 2 (Choosable c.args.l) (counted c.args.l) (count_gate-maps c.args.l) (zip c.args.counters.now (drop 1 c.args.counters.now)) [] c.args.g.now _ _ c.loop-i.next c.loop-i.i c.loop-i.g c.loop-i.invariant (c.at.result.now, c.at-in-loop-i.result.now) (neighbours c.args.counters.now c.loop-i.i _ _ c.at.ensures c.at-in-loop-i.ensures)).items.0.0.1

pub count-requires-clause-literal : goal.count-requires-clause-literal
count-requires-clause-literal c = (map_loop-here (count_gate c.args.l) 2 (Choosable c.args.l) (counted c.args.l) (count_gate-maps c.args.l) (zip c.args.counters.now (drop 1 c.args.counters.now)) [] c.args.g.now _ _ c.loop-i.next c.loop-i.i c.loop-i.g c.loop-i.invariant (c.at.result.now, c.at-in-loop-i.result.now) (neighbours c.args.counters.now c.loop-i.i _ _ c.at.ensures c.at-in-loop-i.ensures)).items.0.1

pub count-requires-clause-room : goal.count-requires-clause-room
count-requires-clause-room c =
    let here : MapShape 2 (Choosable c.args.l) _ (c.args.g.now.free + 2 * length (zip c.args.counters.now (drop 1 c.args.counters.now))) ((c.at.result.now, c.at-in-loop-i.result.now) ∷ drop (c.loop-i.i + 1) (zip c.args.counters.now (drop 1 c.args.counters.now))) c.loop-i.g c.loop-i.next =
    map_loop-here (count_gate c.args.l) 2 (Choosable c.args.l) (counted c.args.l) (count_gate-maps c.args.l) (zip c.args.counters.now (drop 1 c.args.counters.now)) [] c.args.g.now _ _ c.loop-i.next c.loop-i.i c.loop-i.g c.loop-i.invariant (c.at.result.now, c.at-in-loop-i.result.now) (neighbours c.args.counters.now c.loop-i.i _ _ c.at.ensures c.at-in-loop-i.ensures)
    in
    omega (arith, here.room, c.requires.room, c.requires.some, length-neighbours c.args.counters.now c.requires.some)

pub returns-in_err-counter-clause-err : goal.returns-in_err-counter-clause-err
returns-in_err-counter-clause-err c =
    OnErr-from _ _ (count_step-stops c.args.l c.args.counters.now c.args.g.now _ (map_loop-stops (count_gate c.args.l) 2 (Choosable c.args.l) (counted c.args.l) (count_gate-maps c.args.l) (zip c.args.counters.now (drop 1 c.args.counters.now)) [] c.args.g.now _ _ c.loop-i.next c.loop-i.i c.loop-i.g c.loop-i.invariant (c.at.result.now, c.at-in-loop-i.result.now) (neighbours c.args.counters.now c.loop-i.i _ _ c.at.ensures c.at-in-loop-i.ensures) c.count.new.g c.in_err-counter.ensures.err))

pub returns-in_err-push-clause-err : goal.returns-in_err-push-clause-err
returns-in_err-push-clause-err c =
    OnErr-from _ _
    (count_step-stops c.args.l c.args.counters.now c.args.g.now _
    (map_loop-between (count_gate c.args.l) 2 (Choosable c.args.l) (counted c.args.l) (count_gate-maps c.args.l) (zip c.args.counters.now (drop 1 c.args.counters.now)) [] c.args.g.now _ _ _ _ c.count.new.g
    (map_loop-next (count_gate c.args.l) 2 (Choosable c.args.l) (counted c.args.l) (count_gate-maps c.args.l) (zip c.args.counters.now (drop 1 c.args.counters.now)) [] c.args.g.now _ _ c.loop-i.next c.loop-i.i c.loop-i.g c.loop-i.invariant (c.at.result.now, c.at-in-loop-i.result.now) (neighbours c.args.counters.now c.loop-i.i _ _ c.at.ensures c.at-in-loop-i.ensures) c.count.new.g c.in_ok-counter.counter c.in_ok-counter.ensures.exact)))

pub loop-i-preserved : goal.loop-i-preserved
loop-i-preserved c = rw c.in_ok-push.ensures.ok (map_loop-next (count_gate c.args.l) 2 (Choosable c.args.l) (counted c.args.l) (count_gate-maps c.args.l) (zip c.args.counters.now (drop 1 c.args.counters.now)) [] c.args.g.now _ _ c.loop-i.next c.loop-i.i c.loop-i.g c.loop-i.invariant (c.at.result.now, c.at-in-loop-i.result.now) (neighbours c.args.counters.now c.loop-i.i _ _ c.at.ensures c.at-in-loop-i.ensures) c.count.new.g c.in_ok-counter.counter c.in_ok-counter.ensures.exact)

pub returns-in_err-push-2-clause-err : goal.returns-in_err-push-2-clause-err
returns-in_err-push-2-clause-err c = OnErr-from _ _ (count_step-stops c.args.l c.args.counters.now c.args.g.now _ (map_loop-between (count_gate c.args.l) 2 (Choosable c.args.l) (counted c.args.l) (count_gate-maps c.args.l) (zip c.args.counters.now (drop 1 c.args.counters.now)) [] c.args.g.now _ _ c.loop-i.next c.loop-i.i c.loop-i.g c.loop-i.invariant))

pub returns-clause-exact : goal.returns-clause-exact
returns-clause-exact c =
    count_step-exact c.args.l c.args.counters.now c.args.g.now c.loop-i.g c.loop-i.next (map_loop-end (count_gate c.args.l) 2 (Choosable c.args.l) (counted c.args.l) (count_gate-maps c.args.l) (zip c.args.counters.now (drop 1 c.args.counters.now)) [] c.args.g.now _ _ c.loop-i.next c.loop-i.i c.loop-i.g c.loop-i.invariant (omega (arith, length-neighbours c.args.counters.now c.requires.some)))
    ∙ ap (λ w. (c.loop-i.g, w)) (ap (λ x. c.loop-i.next ++ x ∷ []) (sym c.sign.ensures) ∙ sym c.in_ok-push-2.ensures.ok)
