use Rattle.cert_text.proofs.Cutting.{after_first, lacks_first, equal_then, unequal_then}
use Rattle.cert_text.proofs.words.after_word.Goals as goal

pub returns-then-eq : goal.returns-then-eq
returns-then-eq c =
    after_first c.args.line.now c.cut.result.0.now c.cut.result.1.now c.args.name.now c.cut.ensures.whole c.cut.ensures.front c.cut.ensures.back
    (equal_then c.cut.result.0.now c.args.name.now c.eq.result c.eq.ensures c.if-eq.true)

pub returns-else-eq : goal.returns-else-eq
returns-else-eq c =
    lacks_first c.args.line.now c.cut.result.0.now c.cut.result.1.now c.args.name.now c.cut.ensures.whole c.cut.ensures.front c.cut.ensures.back
    (unequal_then c.cut.result.0.now c.args.name.now c.eq.result c.eq.ensures c.if-eq.false)
