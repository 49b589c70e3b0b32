use Rattle.std.proofs.Common.{◌≡◌, ◌∙◌, ◌+◌, take, arith}
use Rattle.cert_laws.specs.Certificate.{lines_of_sets}
use Rattle.cert_check.proofs.LineCounts.{lines_more, lines_few, lines_all}
use Rattle.cert_check.proofs.lines.lines_of_sets.Goals as goal

pub overflow_add-lines : goal.overflow_add-lines
overflow_add-lines c =
    let more = lines_more c.args.texts.now c.loop-text.text-index c.text-item.result c.loop-text-test.true c.text-item.is in
    let few = lines_few c.args.texts.now (c.loop-text.text-index + 1) in
    let len = c.len.ensures.value in
    let below = c.requires in
    omega (arith, more, few, len, below)

pub overflow_add-lines-in-loop-text : goal.overflow_add-lines-in-loop-text
overflow_add-lines-in-loop-text c =
    let more = lines_more c.args.texts.now c.loop-text.text-index c.text-item.result c.loop-text-test.true c.text-item.is in
    let few = lines_few c.args.texts.now (c.loop-text.text-index + 1) in
    let len = c.len.ensures.value in
    let below = c.requires in
    let far : c.loop-text.lines ≡ lines_of_sets (take c.loop-text.text-index c.args.texts.now) = c.loop-text.invariant in
    omega (arith, more, few, len, below, far)

pub loop-text-preserved : goal.loop-text-preserved
loop-text-preserved c =
    let more = lines_more c.args.texts.now c.loop-text.text-index c.text-item.result c.loop-text-test.true c.text-item.is in
    let len = c.len.ensures.value in
    let far : c.loop-text.lines ≡ lines_of_sets (take c.loop-text.text-index c.args.texts.now) = c.loop-text.invariant in
    omega (arith, more, len, far)

pub returns : goal.returns
returns c =
    let far : c.loop-text.lines ≡ lines_of_sets (take c.loop-text.text-index c.args.texts.now) = c.loop-text.invariant in
    far ∙ lines_all c.args.texts.now c.loop-text.text-index (omega arith)
