use Rattle.std.proofs.lemmas.Int.{to_z-of_z}
use Rattle.smv_types.proofs.IntervalLaws.{product_fits}
use Rattle.smv_evaluation.proofs.operate.product.Goals as goal

pub overflow_mul-result : goal.overflow_mul-result
overflow_mul-result c = rw (to_z-of_z _ _ c.ranges.a) (rw (to_z-of_z _ _ c.ranges.b) (product_fits c.args.a c.args.b c.requires.a c.requires.b))

pub returns : goal.returns
returns c =
    rw (to_z-of_z _ _ c.ranges.a) (rw (to_z-of_z _ _ c.ranges.b) (to_z-of_z _ _ (product_fits c.args.a c.args.b c.requires.a c.requires.b)))
