use Rattle.std.proofs.Common.{◌≡◌, ◌+◌, ◌*◌, ◌∷◌, [], List, length, drop, cond, subst, arith}
use Rattle.std.specs.Prelude.{zip}
use Rattle.sat_clauses.specs.Literal.{Literal}
use Rattle.sat_clauses.specs.Models.{literal_value}
use Rattle.sat_circuits.specs.Circuit.{Circuit}
use Rattle.sat_circuits.specs.Meaning.{Means, StopsWithin}
use Rattle.sat_circuits.proofs.Extension.{OnErr-from}
use Rattle.sat_circuits.specs.Words.{IsSized, word_value}
use Rattle.sat_circuits.specs.Quotients.{choose_gates}
use Rattle.sat_circuits.proofs.WordMeans.{MapShape, zip-below, slice_get-zip, length-pairs, map_loop-start, map_loop-end, map_loop-between, map_loop-here, map_loop-next, map_loop-stops}
use Rattle.sat_circuits.proofs.QuotientMeans.{Choosable, Choosable-zip, choice, chosen, choice-maps}
use Rattle.sat_circuits.proofs.DivideMeans.{choose_gates-sized}
use Rattle.sat_circuits.proofs.quotients.choose.Goals as goal

pub loop-i-init : goal.loop-i-init
loop-i-init c =
    rw c.new-chosen.ensures
    (map_loop-start (choice c.args.c) 1 (Choosable c.args.c) (chosen c.args.c) (choice-maps c.args.c) (zip c.args.xs.now c.args.ys.now) [] c.args.g.now
    (Choosable-zip c.args.c c.args.g.now.free _ c.requires.choice (zip-below c.args.g.now.free c.args.xs.now c.args.ys.now c.requires.left c.requires.right)) tt)

pub mux-requires-clause-choice : goal.mux-requires-clause-choice
mux-requires-clause-choice c = (map_loop-here (choice c.args.c) 1 (Choosable c.args.c) (chosen c.args.c) (choice-maps c.args.c) (zip c.args.xs.now c.args.ys.now) [] c.args.g.now _ _ c.loop-i.chosen c.loop-i.i c.loop-i.g c.loop-i.invariant (c.at.result.now, c.at-in-loop-i.result.now) (slice_get-zip c.args.xs.now c.args.ys.now c.loop-i.i _ _ c.at.ensures c.at-in-loop-i.ensures)).items.0.1

pub mux-requires-clause-left : goal.mux-requires-clause-left
mux-requires-clause-left c = (map_loop-here (choice c.args.c) 1 (Choosable c.args.c) (chosen c.args.c) (choice-maps c.args.c) (zip c.args.xs.now c.args.ys.now) [] c.args.g.now _ _ c.loop-i.chosen c.loop-i.i c.loop-i.g c.loop-i.invariant (c.at.result.now, c.at-in-loop-i.result.now) (slice_get-zip c.args.xs.now c.args.ys.now c.loop-i.i _ _ c.at.ensures c.at-in-loop-i.ensures)).items.0.0.0

pub mux-requires-clause-right : goal.mux-requires-clause-right
mux-requires-clause-right c = (map_loop-here (choice c.args.c) 1 (Choosable c.args.c) (chosen c.args.c) (choice-maps c.args.c) (zip c.args.xs.now c.args.ys.now) [] c.args.g.now _ _ c.loop-i.chosen c.loop-i.i c.loop-i.g c.loop-i.invariant (c.at.result.now, c.at-in-loop-i.result.now) (slice_get-zip c.args.xs.now c.args.ys.now c.loop-i.i _ _ c.at.ensures c.at-in-loop-i.ensures)).items.0.0.1

pub mux-requires-clause-room : goal.mux-requires-clause-room
mux-requires-clause-room c =
    let here : MapShape 1 (Choosable c.args.c) _ (c.args.g.now.free + 1 * length (zip c.args.xs.now c.args.ys.now)) ((c.at.result.now, c.at-in-loop-i.result.now) ∷ drop (c.loop-i.i + 1) (zip c.args.xs.now c.args.ys.now)) c.loop-i.g c.loop-i.chosen =
    map_loop-here (choice c.args.c) 1 (Choosable c.args.c) (chosen c.args.c) (choice-maps c.args.c) (zip c.args.xs.now c.args.ys.now) [] c.args.g.now _ _ c.loop-i.chosen c.loop-i.i c.loop-i.g c.loop-i.invariant (c.at.result.now, c.at-in-loop-i.result.now) (slice_get-zip c.args.xs.now c.args.ys.now c.loop-i.i _ _ c.at.ensures c.at-in-loop-i.ensures)
    in
    omega (arith, here.room, c.requires.room, length-pairs c.args.xs.now c.args.ys.now c.requires.same)

pub returns-in_err-bit-clause-err : goal.returns-in_err-bit-clause-err
unfolding choose_gates
returns-in_err-bit-clause-err c =
    let stops : StopsWithin c.args.g.now c.mux.new.self (choose_gates c.args.c c.args.xs.now c.args.ys.now c.args.g.now).0 = map_loop-stops (choice c.args.c) 1 (Choosable c.args.c) (chosen c.args.c) (choice-maps c.args.c) (zip c.args.xs.now c.args.ys.now) [] c.args.g.now _ _ c.loop-i.chosen c.loop-i.i c.loop-i.g c.loop-i.invariant (c.at.result.now, c.at-in-loop-i.result.now) (slice_get-zip c.args.xs.now c.args.ys.now c.loop-i.i _ _ c.at.ensures c.at-in-loop-i.ensures) c.mux.new.self c.in_err-bit.ensures.err in
    OnErr-from _ _ stops

pub returns-in_err-push-clause-err : goal.returns-in_err-push-clause-err
unfolding choose_gates
returns-in_err-push-clause-err c =
    let stops : StopsWithin c.args.g.now c.mux.new.self (choose_gates c.args.c c.args.xs.now c.args.ys.now c.args.g.now).0 =
    map_loop-between (choice c.args.c) 1 (Choosable c.args.c) (chosen c.args.c) (choice-maps c.args.c) (zip c.args.xs.now c.args.ys.now) [] c.args.g.now _ _ _ _ c.mux.new.self
    (map_loop-next (choice c.args.c) 1 (Choosable c.args.c) (chosen c.args.c) (choice-maps c.args.c) (zip c.args.xs.now c.args.ys.now) [] c.args.g.now _ _ c.loop-i.chosen c.loop-i.i c.loop-i.g c.loop-i.invariant (c.at.result.now, c.at-in-loop-i.result.now) (slice_get-zip c.args.xs.now c.args.ys.now c.loop-i.i _ _ c.at.ensures c.at-in-loop-i.ensures) c.mux.new.self c.in_ok-bit.bit c.in_ok-bit.ensures.exact)
    in
    OnErr-from _ _ stops

pub loop-i-preserved : goal.loop-i-preserved
loop-i-preserved c = rw c.in_ok-push.ensures.ok (map_loop-next (choice c.args.c) 1 (Choosable c.args.c) (chosen c.args.c) (choice-maps c.args.c) (zip c.args.xs.now c.args.ys.now) [] c.args.g.now _ _ c.loop-i.chosen c.loop-i.i c.loop-i.g c.loop-i.invariant (c.at.result.now, c.at-in-loop-i.result.now) (slice_get-zip c.args.xs.now c.args.ys.now c.loop-i.i _ _ c.at.ensures c.at-in-loop-i.ensures) c.mux.new.self c.in_ok-bit.bit c.in_ok-bit.ensures.exact)

pub returns-clause-exact : goal.returns-clause-exact
unfolding choose_gates
returns-clause-exact c = map_loop-end (choice c.args.c) 1 (Choosable c.args.c) (chosen c.args.c) (choice-maps c.args.c) (zip c.args.xs.now c.args.ys.now) [] c.args.g.now _ _ c.loop-i.chosen c.loop-i.i c.loop-i.g c.loop-i.invariant (omega (arith, length-pairs c.args.xs.now c.args.ys.now c.requires.same))

pub returns-clause-value : goal.returns-clause-value
returns-clause-value c =
    subst (λ (x : Circuit × List Literal). Means c.args.g.now x (IsSized (length c.args.xs.now) (c.args.g.now.free + length c.args.xs.now)) (λ v u. word_value v u ≡ cond (literal_value v c.args.c) (word_value v c.args.xs.now) (word_value v c.args.ys.now)))
    (returns-clause-exact c)
    (choose_gates-sized c.args.c c.args.xs.now c.args.ys.now c.args.g.now c.requires.same c.requires.choice c.requires.left c.requires.right)
