use Rattle.std.proofs.Common.{◌<◌, ◌∙◌, arith, length}
use Rattle.std.proofs.lemmas.List.{length-set}
use Rattle.std.proofs.lemmas.Option.{get_or_from_slice_get}
use Rattle.smv_evaluation.proofs.LoopLaws.{wrote_more}
use Rattle.smv_evaluation.proofs.table.write_variables.Goals as goal

pub loop-i-preserved : goal.loop-i-preserved
loop-i-preserved c =
    let into = c.loop-i.into in
    let i = c.loop-i.i in
    let x = c.get.result in
    let within : i < length into = omega (arith, c.loop-i-test.true, c.len-i-end.ensures, c.loop-i.invariant.1) in
    (wrote_more into c.args.v.now i x within c.loop-i.invariant.1 (get_or_from_slice_get c.args.v.now i x x c.get.ensures) c.loop-i.invariant.0, length-set into i x ∙ c.loop-i.invariant.1)
