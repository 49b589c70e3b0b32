use Rattle.std.proofs.Common.{arith}
use Rattle.fault_odds.proofs.UnitsLaws.{fraction_few, power_small}
use Rattle.fault_odds.proofs.units.digits_value.Goals as goal

pub overflow_mul-number : goal.overflow_mul-number
overflow_mul-number c =
    let small = power_small c.loop-digit.number c.loop-digit.digit-index _ c.loop-digit.invariant.0 c.loop-digit-test.true (fraction_few c.args.digits.now c.requires.digits) in
    omega (arith, small)

pub overflow_add-number : goal.overflow_add-number
overflow_add-number c =
    let small = power_small c.loop-digit.number c.loop-digit.digit-index _ c.loop-digit.invariant.0 c.loop-digit-test.true (fraction_few c.args.digits.now c.requires.digits) in
    grind (arith, small)
