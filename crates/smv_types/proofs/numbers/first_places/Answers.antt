use Rattle.std.proofs.Common.{◌∙◌, arith}
use Rattle.smv_types.proofs.NumberingLaws.{numbered_before}
use Rattle.smv_types.proofs.numbers.first_places.Goals as goal

pub loop-place-preserved : goal.loop-place-preserved
loop-place-preserved c = (
  omega (arith, c.loop-place.invariant.0),
  numbered_before c.args.texts.now c.loop-place.place _ c.text.result c.loop-place.places c.insert.new.self (omega arith) c.loop-place.invariant.0 (c.text.ensures ∙ c.index-texts-place.is) c.loop-place.invariant.1
      c.in_ok-insert.ensures.updates.0,
)
