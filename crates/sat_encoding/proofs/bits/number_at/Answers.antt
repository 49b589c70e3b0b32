use Rattle.std.proofs.Common.{◌≡◌, ◌+◌, ◌-◌, ◌^◌, ◌∙◌, ◌≤ℤ◌, ◌<ℤ◌, ℤ, pos, neg_ℤ, to_z, of_z, sym, subst, arith, w64}
use Rattle.std.specs.Prelude.{nat_eq}
use Rattle.std.proofs.lemmas.Int.{to_z-of_z}
use Rattle.sat_encoding.proofs.NumberLaws.{number_next, number_small, number_fits, is_whole, is_part}
use Rattle.sat_encoding.proofs.bits.number_at.Goals as goal

pub with_digit-n-requires-clause-low : goal.with_digit-n-requires-clause-low
with_digit-n-requires-clause-low c = (number_fits _ (c.args.width - c.loop-left.left) (omega arith) c.loop-left.invariant.2 c.loop-left.invariant.3).0

pub with_digit-n-requires-clause-high : goal.with_digit-n-requires-clause-high
with_digit-n-requires-clause-high c = (number_fits _ (c.args.width - c.loop-left.left) (omega arith) c.loop-left.invariant.2 c.loop-left.invariant.3).1

pub loop-left-preserved : goal.loop-left-preserved
loop-left-preserved c =
    let back : to_z w64 (of_z w64 c.with_digit-n.result) ≡ c.with_digit-n.result = to_z-of_z w64 c.with_digit-n.result (record { sfits = c.with_digit-n.type_inv }) in
    let last = nat_eq ((c.loop-left.left - 1) + 1) c.args.width in
    let next =
    number_next c.args.signed last c.args.a.now c.args.place c.loop-left.left c.args.width (to_z w64 c.loop-left.n-bits) c.with_digit-n.result c.is_true-bit.result c.loop-left-test.true c.loop-left.invariant.1
    (λ e. is_whole c.loop-left.left c.args.width c.loop-left-test.true e) (λ e. is_part c.loop-left.left c.args.width c.loop-left-test.true e) c.is_true-bit.ensures c.loop-left.invariant.0 c.with_digit-n.ensures in
    let small =
    number_small c.args.signed last c.is_true-bit.result (to_z w64 c.loop-left.n-bits) c.with_digit-n.result (c.args.width - c.loop-left.left) (c.args.width - (c.loop-left.left - 1)) (omega (arith, c.loop-left-test.true, c.loop-left.invariant.1))
    c.loop-left.invariant.2 c.loop-left.invariant.3 c.with_digit-n.ensures in (
      back ∙ next,
      omega (arith, c.loop-left.invariant.1),
      subst (λ (z : ℤ). neg_ℤ (pos (2 ^ (c.args.width - (c.loop-left.left - 1)))) ≤ℤ z) (sym back) small.0,
      subst (λ (z : ℤ). z <ℤ pos (2 ^ (c.args.width - (c.loop-left.left - 1)))) (sym back) small.1,
    )
