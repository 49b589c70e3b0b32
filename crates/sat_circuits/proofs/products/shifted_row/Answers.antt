use Rattle.std.proofs.Common.{◌+◌, ◌-◌, ◌*◌, ◌∷◌, length, drop, take, ◌&&◌, arith}
use Rattle.std.proofs.lemmas.List.{length-take-le}
use Rattle.sat_clauses.specs.Models.{literal_value}
use Rattle.sat_circuits.specs.Gates.{and_gate}
use Rattle.sat_circuits.specs.Meaning.{StopsWithin}
use Rattle.sat_circuits.proofs.Extension.{OnErr-from, StopsWithin-none}
use Rattle.sat_circuits.specs.Words.{zeros}
use Rattle.sat_circuits.specs.Products.{row_gates}
use Rattle.sat_circuits.proofs.WordMeans.{MapShape, AllBelow-zeros, map_loop-start, map_loop-end, map_loop-between, map_loop-here, map_loop-next, map_loop-stops}
use Rattle.sat_circuits.proofs.ProductMeans.{Rowable, Rowable-all, AllBelow-take, and_gate-maps, slice_get-take, row_gates-adds}
use Rattle.sat_circuits.proofs.products.shifted_row.Goals as goal

pub returns-in_err-row-clause-err : goal.returns-in_err-row-clause-err
returns-in_err-row-clause-err c = OnErr-from _ _ (StopsWithin-none c.args.g.now _ (row_gates-adds c.args.b c.args.shift c.args.a.now c.args.g.now))

pub loop-i-init : goal.loop-i-init
loop-i-init c =
    rw c.in_ok-row.ensures.items
    (map_loop-start (and_gate c.args.b) 1 (Rowable c.args.b) (λ v x. literal_value v c.args.b && literal_value v x) (and_gate-maps c.args.b) (take (length c.args.a.now - c.args.shift) c.args.a.now) (zeros c.args.shift) c.args.g.now
    (Rowable-all c.args.b c.args.g.now.free _ c.requires.left (AllBelow-take c.args.g.now.free _ c.args.a.now c.requires.right)) (AllBelow-zeros c.args.g.now.free c.args.shift c.in_ok-row.ensures.least))

pub and-requires-clause-left : goal.and-requires-clause-left
and-requires-clause-left c = (map_loop-here (and_gate c.args.b) 1 (Rowable c.args.b) (λ v x. literal_value v c.args.b && literal_value v x) (and_gate-maps c.args.b) (take (length c.args.a.now - c.args.shift) c.args.a.now) (zeros c.args.shift) c.args.g.now _ _ c.loop-i.row c.loop-i.i c.loop-i.g c.loop-i.invariant c.at.result.now (slice_get-take c.args.a.now (length c.args.a.now - c.args.shift) c.loop-i.i _ (omega arith) c.at.ensures)).items.0.1

pub and-requires-clause-right : goal.and-requires-clause-right
and-requires-clause-right c = (map_loop-here (and_gate c.args.b) 1 (Rowable c.args.b) (λ v x. literal_value v c.args.b && literal_value v x) (and_gate-maps c.args.b) (take (length c.args.a.now - c.args.shift) c.args.a.now) (zeros c.args.shift) c.args.g.now _ _ c.loop-i.row c.loop-i.i c.loop-i.g c.loop-i.invariant c.at.result.now (slice_get-take c.args.a.now (length c.args.a.now - c.args.shift) c.loop-i.i _ (omega arith) c.at.ensures)).items.0.0

pub and-requires-clause-room : goal.and-requires-clause-room
and-requires-clause-room c =
    let here : MapShape 1 (Rowable c.args.b) _ (c.args.g.now.free + 1 * length (take (length c.args.a.now - c.args.shift) c.args.a.now)) (c.at.result.now ∷ drop (c.loop-i.i + 1) (take (length c.args.a.now - c.args.shift) c.args.a.now)) c.loop-i.g c.loop-i.row =
    map_loop-here (and_gate c.args.b) 1 (Rowable c.args.b) (λ v x. literal_value v c.args.b && literal_value v x) (and_gate-maps c.args.b) (take (length c.args.a.now - c.args.shift) c.args.a.now) (zeros c.args.shift) c.args.g.now _ _ c.loop-i.row c.loop-i.i c.loop-i.g c.loop-i.invariant c.at.result.now (slice_get-take c.args.a.now (length c.args.a.now - c.args.shift) c.loop-i.i _ (omega arith) c.at.ensures)
    in
    omega (arith, here.room, c.requires.room, length-take-le (length c.args.a.now - c.args.shift) c.args.a.now (omega arith))

pub returns-in_err-bit-clause-err : goal.returns-in_err-bit-clause-err
unfolding row_gates
returns-in_err-bit-clause-err c =
    let stops : StopsWithin c.args.g.now c.and.new.self (row_gates c.args.b c.args.shift c.args.a.now c.args.g.now).0 = map_loop-stops (and_gate c.args.b) 1 (Rowable c.args.b) (λ v x. literal_value v c.args.b && literal_value v x) (and_gate-maps c.args.b) (take (length c.args.a.now - c.args.shift) c.args.a.now) (zeros c.args.shift) c.args.g.now _ _ c.loop-i.row c.loop-i.i c.loop-i.g c.loop-i.invariant c.at.result.now (slice_get-take c.args.a.now (length c.args.a.now - c.args.shift) c.loop-i.i _ (omega arith) c.at.ensures) c.and.new.self c.in_err-bit.ensures.err in
    OnErr-from _ _ stops

pub returns-in_err-push-clause-err : goal.returns-in_err-push-clause-err
unfolding row_gates
returns-in_err-push-clause-err c =
    let stops : StopsWithin c.args.g.now c.and.new.self (row_gates c.args.b c.args.shift c.args.a.now c.args.g.now).0 =
    map_loop-between (and_gate c.args.b) 1 (Rowable c.args.b) (λ v x. literal_value v c.args.b && literal_value v x) (and_gate-maps c.args.b) (take (length c.args.a.now - c.args.shift) c.args.a.now) (zeros c.args.shift) c.args.g.now _ _ _ _ c.and.new.self
    (map_loop-next (and_gate c.args.b) 1 (Rowable c.args.b) (λ v x. literal_value v c.args.b && literal_value v x) (and_gate-maps c.args.b) (take (length c.args.a.now - c.args.shift) c.args.a.now) (zeros c.args.shift) c.args.g.now _ _ c.loop-i.row c.loop-i.i c.loop-i.g c.loop-i.invariant c.at.result.now (slice_get-take c.args.a.now (length c.args.a.now - c.args.shift) c.loop-i.i _ (omega arith) c.at.ensures) c.and.new.self c.in_ok-bit.bit c.in_ok-bit.ensures.exact)
    in
    OnErr-from _ _ stops

pub loop-i-preserved : goal.loop-i-preserved
loop-i-preserved c = rw c.in_ok-push.ensures.ok (map_loop-next (and_gate c.args.b) 1 (Rowable c.args.b) (λ v x. literal_value v c.args.b && literal_value v x) (and_gate-maps c.args.b) (take (length c.args.a.now - c.args.shift) c.args.a.now) (zeros c.args.shift) c.args.g.now _ _ c.loop-i.row c.loop-i.i c.loop-i.g c.loop-i.invariant c.at.result.now (slice_get-take c.args.a.now (length c.args.a.now - c.args.shift) c.loop-i.i _ (omega arith) c.at.ensures) c.and.new.self c.in_ok-bit.bit c.in_ok-bit.ensures.exact)

pub returns-clause-exact : goal.returns-clause-exact
unfolding row_gates
returns-clause-exact c = map_loop-end (and_gate c.args.b) 1 (Rowable c.args.b) (λ v x. literal_value v c.args.b && literal_value v x) (and_gate-maps c.args.b) (take (length c.args.a.now - c.args.shift) c.args.a.now) (zeros c.args.shift) c.args.g.now _ _ c.loop-i.row c.loop-i.i c.loop-i.g c.loop-i.invariant (omega (arith, length-take-le (length c.args.a.now - c.args.shift) c.args.a.now (omega arith)))
