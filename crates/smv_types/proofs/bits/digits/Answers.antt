use Rattle.std.proofs.Common.{◌≡◌, ◌-◌, arith}
use Rattle.smv_type_laws.specs.Costs.{digits_in}
use Rattle.smv_types.proofs.DigitLaws.{digits_end}
use Rattle.smv_types.proofs.bits.digits.Goals as goal

pub returns-clause-value : goal.returns-clause-value
returns-clause-value c =
    let e : digits_in (64 - c.loop-place._place) c.loop-place.left ≡ 0 = digits_end c.loop-place._place c.loop-place.left (omega arith) in
    omega (arith, e, c.loop-place.invariant.0)
