use Rattle.std.proofs.Common.{◌≡◌, ◌+◌, ◌-◌, ◌*◌, ◌∷◌, [], suc, length, drop, reverse, sym, ◌∙◌, ap, arith}
use Rattle.std.specs.Prelude.{slice_get}
use Rattle.std.proofs.lemmas.List.{length-reverse}
use Rattle.sat_circuits.proofs.Extension.{OnErr-from, StopsWithin-none}
use Rattle.sat_circuits.proofs.Turns.{Turns-first, Turns-last}
use Rattle.sat_circuits.specs.Words.{zeros}
use Rattle.sat_circuits.specs.Quotients.{quotient_step}
use Rattle.sat_circuits.proofs.QuotientMeans.{DivideShape, divide_cost, divide-first, quotient_step-adds, long_division_gates-adds, AllBelow-reverse}
use Rattle.sat_circuits.proofs.DivideMeans.{long_loop-end, long_loop-between, long_loop-here, long_loop-stops, long_loop-next}
use Rattle.sat_circuits.proofs.quotients.long_division.Goals as goal
use Rattle.sat_circuits.proofs.quotients.long_division.Goals.{After-at}

pub returns-in_err-rest-clause-err : goal.returns-in_err-rest-clause-err
returns-in_err-rest-clause-err c = OnErr-from _ _ (StopsWithin-none c.args.g.now _ (long_division_gates-adds c.args.dividend c.args.divisor.now c.args.g.now))

pub loop-i-init : goal.loop-i-init
loop-i-init c =
    let width : length c.args.divisor.now ≡ suc (suc (length c.args.divisor.now - 2)) = omega (arith, c.requires.widths.0) in
    rw (c.new-quotient.ensures, c.in_ok-rest.ensures.items, c.len.ensures)
    (Turns-first (quotient_step c.args.divisor.now) (DivideShape (length c.args.divisor.now - 2) (length c.args.dividend) (c.args.g.now.free + divide_cost (suc (suc (length c.args.divisor.now - 2))) * length c.args.dividend) c.args.divisor.now) (reverse c.args.dividend) ([], zeros (length c.args.divisor.now)) c.args.g.now
    (divide-first (length c.args.divisor.now - 2) c.args.dividend c.args.divisor.now c.args.g.now c.constant.ensures.truth c.in_ok-rest.ensures.least c.requires.left (record { long = width; below = c.requires.right })))

here : (c : After-at) → DivideShape (length c.args.divisor.now - 2) (length c.args.dividend) (c.args.g.now.free + divide_cost (suc (suc (length c.args.divisor.now - 2))) * length c.args.dividend) c.args.divisor.now (c.at.result.now ∷ drop (c.loop-i.i + 1) (reverse c.args.dividend)) c.loop-i.g (c.loop-i.quotient, c.loop-i.rest)
here c = long_loop-here c.args.dividend c.args.divisor.now c.args.g.now (length c.args.divisor.now - 2) (length c.args.dividend) (c.args.g.now.free + divide_cost (suc (suc (length c.args.divisor.now - 2))) * length c.args.dividend) c.loop-i.quotient c.loop-i.rest c.loop-i.i c.loop-i.g c.loop-i.invariant c.at.result.now (ap (λ w. slice_get w c.loop-i.i) (sym c.reversed-bits.ensures) ∙ c.at.ensures)

pub divided_bit-requires-clause-same : goal.divided_bit-requires-clause-same
divided_bit-requires-clause-same c = let h : _ = here (goal.at.divided_bit-requires-clause-same c).After-at in h.rest.long ∙ sym h.divisor.long

pub divided_bit-requires-clause-bit : goal.divided_bit-requires-clause-bit
divided_bit-requires-clause-bit c = (here (goal.at.divided_bit-requires-clause-bit c).After-at).bits.0

pub divided_bit-requires-clause-rest : goal.divided_bit-requires-clause-rest
divided_bit-requires-clause-rest c = (here (goal.at.divided_bit-requires-clause-rest c).After-at).rest.below

pub divided_bit-requires-clause-divisor : goal.divided_bit-requires-clause-divisor
divided_bit-requires-clause-divisor c = (here (goal.at.divided_bit-requires-clause-divisor c).After-at).divisor.below

pub divided_bit-requires-clause-room : goal.divided_bit-requires-clause-room
divided_bit-requires-clause-room c =
    let cost : divide_cost (suc (suc (length c.args.divisor.now - 2))) ≡ 11 * length c.args.divisor.now + 5 = omega (arith, c.requires.widths.0) in
    let all : divide_cost (suc (suc (length c.args.divisor.now - 2))) * length c.args.dividend ≡ (11 * length c.args.divisor.now + 5) * length c.args.divisor.now = ap (λ k. k * length c.args.dividend) cost ∙ ap (λ k. (11 * length c.args.divisor.now + 5) * k) c.requires.same in
    let step : divide_cost (suc (suc (length c.args.divisor.now - 2))) * suc (length (drop (c.loop-i.i + 1) (reverse c.args.dividend))) ≡ (11 * length c.args.divisor.now + 5) * suc (length (drop (c.loop-i.i + 1) (reverse c.args.dividend))) =
    ap (λ k. k * suc (length (drop (c.loop-i.i + 1) (reverse c.args.dividend)))) cost
    in
    omega (arith, (here (goal.at.divided_bit-requires-clause-room c).After-at).room, all, step, c.requires.room)

pub returns-in_err-bit-clause-err : goal.returns-in_err-bit-clause-err
returns-in_err-bit-clause-err c = OnErr-from _ _ (long_loop-stops c.args.dividend c.args.divisor.now c.args.g.now (length c.args.divisor.now - 2) (length c.args.dividend) (c.args.g.now.free + divide_cost (suc (suc (length c.args.divisor.now - 2))) * length c.args.dividend) c.loop-i.quotient c.loop-i.rest c.loop-i.i c.loop-i.g c.loop-i.invariant c.at.result.now (ap (λ w. slice_get w c.loop-i.i) (sym c.reversed-bits.ensures) ∙ c.at.ensures) c.divided_bit.new.g c.in_err-bit.ensures.err)

pub returns-in_err-push-clause-err : goal.returns-in_err-push-clause-err
returns-in_err-push-clause-err c =
    OnErr-from _ _
    (long_loop-between c.args.dividend c.args.divisor.now c.args.g.now (length c.args.divisor.now - 2) (length c.args.dividend) (c.args.g.now.free + divide_cost (suc (suc (length c.args.divisor.now - 2))) * length c.args.dividend) _ _ _ c.divided_bit.new.g (long_loop-next c.args.dividend c.args.divisor.now c.args.g.now (length c.args.divisor.now - 2) (length c.args.dividend) (c.args.g.now.free + divide_cost (suc (suc (length c.args.divisor.now - 2))) * length c.args.dividend) c.loop-i.quotient c.loop-i.rest c.loop-i.i c.loop-i.g c.loop-i.invariant c.at.result.now (ap (λ w. slice_get w c.loop-i.i) (sym c.reversed-bits.ensures) ∙ c.at.ensures) c.divided_bit.new.g c.in_ok-bit.bit c.in_ok-bit.next c.in_ok-bit.ensures.exact))

pub loop-i-preserved : goal.loop-i-preserved
loop-i-preserved c = rw c.in_ok-push.ensures.ok (long_loop-next c.args.dividend c.args.divisor.now c.args.g.now (length c.args.divisor.now - 2) (length c.args.dividend) (c.args.g.now.free + divide_cost (suc (suc (length c.args.divisor.now - 2))) * length c.args.dividend) c.loop-i.quotient c.loop-i.rest c.loop-i.i c.loop-i.g c.loop-i.invariant c.at.result.now (ap (λ w. slice_get w c.loop-i.i) (sym c.reversed-bits.ensures) ∙ c.at.ensures) c.divided_bit.new.g c.in_ok-bit.bit c.in_ok-bit.next c.in_ok-bit.ensures.exact)

pub returns-clause-exact : goal.returns-clause-exact
returns-clause-exact c =
    long_loop-end c.args.dividend c.args.divisor.now c.args.g.now (length c.args.divisor.now - 2) (length c.args.dividend) (c.args.g.now.free + divide_cost (suc (suc (length c.args.divisor.now - 2))) * length c.args.dividend) c.loop-i.quotient c.loop-i.rest c.loop-i.i c.loop-i.g c.loop-i.invariant (omega (arith, ap length c.reversed-bits.ensures)) ∙ ap (λ w. (c.loop-i.g, (w, c.loop-i.rest))) (sym c.reversed-quotient.ensures)

pub returns-clause-shape : goal.returns-clause-shape
returns-clause-shape c =
    let last : DivideShape (length c.args.divisor.now - 2) (length c.args.dividend) (c.args.g.now.free + divide_cost (suc (suc (length c.args.divisor.now - 2))) * length c.args.dividend) c.args.divisor.now [] c.loop-i.g (c.loop-i.quotient, c.loop-i.rest) =
    Turns-last (quotient_step c.args.divisor.now) (DivideShape (length c.args.divisor.now - 2) (length c.args.dividend) (c.args.g.now.free + divide_cost (suc (suc (length c.args.divisor.now - 2))) * length c.args.dividend) c.args.divisor.now) (quotient_step-adds c.args.divisor.now) (reverse c.args.dividend) c.args.g.now _ c.loop-i.i (c.loop-i.quotient, c.loop-i.rest) c.loop-i.g c.loop-i.invariant (omega (arith, ap length c.reversed-bits.ensures))
    in
    let cost : divide_cost (suc (suc (length c.args.divisor.now - 2))) ≡ 11 * length c.args.divisor.now + 5 = omega (arith, c.requires.widths.0) in
    let all : divide_cost (suc (suc (length c.args.divisor.now - 2))) * length c.args.dividend ≡ (11 * length c.args.divisor.now + 5) * length c.args.divisor.now = ap (λ k. k * length c.args.dividend) cost ∙ ap (λ k. (11 * length c.args.divisor.now + 5) * k) c.requires.same in
    record {
      first = rw c.reversed-quotient.ensures
          (record { long = length-reverse c.loop-i.quotient ∙ omega (arith, last.long, c.requires.same); below = AllBelow-reverse c.loop-i.g.free c.loop-i.quotient last.quotient });
      second = record { long = last.rest.long ∙ sym last.divisor.long; below = last.rest.below };
      free = omega (arith, last.room, all);
    }
