use Rattle.std.proofs.Common.{◌≡◌, ◌+◌, ◌*◌, ◌++◌, ◌∷◌, [], length, drop, true, refl, sym, ◌∙◌, ap, subst, arith}
use Rattle.std.specs.Prelude.{nat_le}
use Rattle.std.proofs.lemmas.Option.{slice_get_read}
use Rattle.sat_clauses.specs.Literal.{Literal, opposite}
use Rattle.sat_circuits.specs.Circuit.{Circuit}
use Rattle.sat_circuits.specs.Gates.{constant_lit}
use Rattle.sat_circuits.specs.Meaning.{GivesBool}
use Rattle.sat_circuits.proofs.Extension.{OnErr-from, StopsWithin-none}
use Rattle.sat_circuits.proofs.Turns.{Turns-first}
use Rattle.sat_circuits.specs.Words.{zeros}
use Rattle.sat_circuits.specs.Counts.{count_step, true_count}
use Rattle.sat_circuits.proofs.CountMeans.{CountShape, count-first, at_most_gates-adds, at_most_gates-means, at_most_gates-gives, count_loop-end, count_loop-here, count_loop-stops, count_loop-next, first-at}
use Rattle.sat_circuits.proofs.counts.at_most.Goals as goal

pub returns-in_err-counters-clause-err : goal.returns-in_err-counters-clause-err
returns-in_err-counters-clause-err c = OnErr-from _ _ (StopsWithin-none c.args.g.now _ (at_most_gates-adds c.args.lits.now c.args.n c.args.g.now))

pub returns-in_err-push-clause-err : goal.returns-in_err-push-clause-err
returns-in_err-push-clause-err c = OnErr-from _ _ (StopsWithin-none c.args.g.now _ (at_most_gates-adds c.args.lits.now c.args.n c.args.g.now))

pub loop-l-init : goal.loop-l-init
loop-l-init c =
    let start : c.push.new.self ≡ zeros (c.args.n + 1) ++ constant_lit true ∷ [] = rw (c.in_ok-push.ensures.ok, c.in_ok-counters.ensures.items, c.constant-truth.ensures.literal) refl in
    rw start
    (Turns-first count_step (CountShape c.args.n (c.args.g.now.free + (2 * (c.args.n + 1)) * length c.args.lits.now)) c.args.lits.now (zeros (c.args.n + 1) ++ constant_lit true ∷ []) c.args.g.now
    (count-first c.args.lits.now c.args.n c.args.g.now c.in_ok-counters.ensures.least c.requires.below))

pub counted-requires-clause-some : goal.counted-requires-clause-some
counted-requires-clause-some c = omega (arith, c.loop-l.invariant.shape.long)

pub counted-requires-clause-left : goal.counted-requires-clause-left
counted-requires-clause-left c = c.loop-l.invariant.shape.counters

pub counted-requires-clause-right : goal.counted-requires-clause-right
counted-requires-clause-right c = (count_loop-here c.args.lits.now c.args.n c.args.g.now (c.args.g.now.free + (2 * (c.args.n + 1)) * length c.args.lits.now) c.loop-l.counters c.loop-l.l-index c.loop-l.g c.loop-l.invariant c.l-item.result (slice_get_read c.args.lits.now _ c.loop-l.l-index c.l-item.result refl (omega arith) c.l-item.is)).literals.0

pub counted-requires-clause-room : goal.counted-requires-clause-room
counted-requires-clause-room c =
    let here : CountShape c.args.n (c.args.g.now.free + (2 * (c.args.n + 1)) * length c.args.lits.now) (c.l-item.result ∷ drop (c.loop-l.l-index + 1) c.args.lits.now) c.loop-l.g c.loop-l.counters = count_loop-here c.args.lits.now c.args.n c.args.g.now (c.args.g.now.free + (2 * (c.args.n + 1)) * length c.args.lits.now) c.loop-l.counters c.loop-l.l-index c.loop-l.g c.loop-l.invariant c.l-item.result (slice_get_read c.args.lits.now _ c.loop-l.l-index c.l-item.result refl (omega arith) c.l-item.is) in
    omega (arith, here.room, here.long, c.requires.room)

pub returns-in_err-counters-2-clause-err : goal.returns-in_err-counters-2-clause-err
returns-in_err-counters-2-clause-err c = OnErr-from _ _ (count_loop-stops c.args.lits.now c.args.n c.args.g.now (c.args.g.now.free + (2 * (c.args.n + 1)) * length c.args.lits.now) c.loop-l.counters c.loop-l.l-index c.loop-l.g c.loop-l.invariant c.l-item.result (slice_get_read c.args.lits.now _ c.loop-l.l-index c.l-item.result refl (omega arith) c.l-item.is) c.counted.new.g c.in_err-counters-2.ensures.err)

pub loop-l-preserved : goal.loop-l-preserved
loop-l-preserved c = count_loop-next c.args.lits.now c.args.n c.args.g.now (c.args.g.now.free + (2 * (c.args.n + 1)) * length c.args.lits.now) c.loop-l.counters c.loop-l.l-index c.loop-l.g c.loop-l.invariant c.l-item.result (slice_get_read c.args.lits.now _ c.loop-l.l-index c.l-item.result refl (omega arith) c.l-item.is) c.counted.new.g c.in_ok-counters-2.counters c.in_ok-counters-2.ensures.exact

pub at-requires : goal.at-requires
at-requires c = omega (arith, c.loop-l.invariant.shape.long)

pub returns-clause-exact : goal.returns-clause-exact
returns-clause-exact c =
    count_loop-end c.args.lits.now c.args.n c.args.g.now (c.args.g.now.free + (2 * (c.args.n + 1)) * length c.args.lits.now) c.loop-l.counters c.loop-l.l-index c.loop-l.g c.loop-l.invariant (omega arith) ∙ ap (λ l. (c.loop-l.g, l)) (ap opposite (first-at c.loop-l.counters c.at.result.now c.at.ensures) ∙ sym c.neg.ensures)

pub returns-clause-value : goal.returns-clause-value
returns-clause-value c =
    subst (λ (x : Circuit × Literal). GivesBool c.args.g.now x.0 x.1 (λ v. nat_le (true_count v c.args.lits.now) c.args.n)) (returns-clause-exact c)
    (at_most_gates-gives c.args.lits.now c.args.n c.args.g.now c.constant-truth.ensures.truth c.in_ok-counters.ensures.least c.requires.below)

pub returns-clause-next : goal.returns-clause-next
returns-clause-next c =
    sym (ap (λ (x : Circuit × Literal). x.0.free) (returns-clause-exact c))
    ∙ (at_most_gates-means c.args.lits.now c.args.n c.args.g.now c.constant-truth.ensures.truth c.in_ok-counters.ensures.least c.requires.below).shape.1
