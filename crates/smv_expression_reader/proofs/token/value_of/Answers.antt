use Rattle.std.proofs.Common.{arith, ◌^◌, ◌-◌}
use Rattle.smv_expression_reader.proofs.Texts.{number_small}
use Rattle.smv_expression_reader.proofs.token.value_of.Goals as goal

pub overflow_mul-value : goal.overflow_mul-value
overflow_mul-value c =
    let small = number_small c.args.text.now c.loop-digit.digit-index 0 c.loop-digit.value (2 ^ 63 - 1) c.loop-digit-test.true c.loop-digit.invariant c.requires in omega (arith, small)

pub overflow_add-value : goal.overflow_add-value
overflow_add-value c =
    let small = number_small c.args.text.now c.loop-digit.digit-index 0 c.loop-digit.value (2 ^ 63 - 1) c.loop-digit-test.true c.loop-digit.invariant c.requires in grind (arith, small)
