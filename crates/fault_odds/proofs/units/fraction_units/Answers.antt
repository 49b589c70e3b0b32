use Rattle.std.proofs.Common.{length, arith}
use Rattle.smv_lexer.specs.Tokens.{number_of}
use Rattle.fault_odds.proofs.UnitsLaws.{power_small, place_on}
use Rattle.fault_odds.proofs.units.fraction_units.Goals as goal

pub overflow_mul-units : goal.overflow_mul-units
overflow_mul-units c =
    let small = power_small c.loop-place.units c.loop-place.place 18 c.loop-place.invariant.2 c.loop-place-test.true (omega arith) in
    omega (arith, small)

pub loop-place-preserved : goal.loop-place-preserved
loop-place-preserved c =
    place_on c.loop-place.units c.loop-place.place (length c.args.digits.now) (number_of c.args.digits.now) c.loop-place.invariant.0 c.loop-place-test.true c.loop-place.invariant.2 c.loop-place.invariant.3
