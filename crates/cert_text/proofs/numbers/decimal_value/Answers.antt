use Rattle.std.proofs.Common.{length, sym, ◌∙◌, arith, eqb-true}
use Rattle.cert_text.proofs.NumeralLaws.{empty_none, sign_none, zero_some, zero_none, valued}
use Rattle.cert_text.proofs.numbers.decimal_value.Goals as goal

pub returns-then-is_empty : goal.returns-then-is_empty
returns-then-is_empty c = empty_none c.args.word.now (eqb-true (length c.args.word.now) 0 (sym c.is_empty.ensures ∙ c.if-is_empty.true))

pub returns-then-word-eq43 : goal.returns-then-word-eq43
returns-then-word-eq43 c = sign_none c.args.word.now (grind arith) c.if-word-eq43.true

pub returns-then-word-eq1 : goal.returns-then-word-eq1
returns-then-word-eq1 c = zero_some c.args.word.now c.if-word-eq1.true c.if-word-eq48.true

pub returns-else-word-eq1 : goal.returns-else-word-eq1
returns-else-word-eq1 c = zero_none c.args.word.now c.if-word-eq1.false c.if-word-eq48.true

pub returns : goal.returns
returns c = valued c.args.word.now c.value.result c.value.ensures c.if-word-eq48.false
