use Rattle.sat_simplify.proofs.CompactMarks.{marked_more}
use Rattle.sat_simplify.proofs.compact.mark_clause.Goals as goal

pub loop-lit-preserved : goal.loop-lit-preserved
loop-lit-preserved c =
    marked_more c.args.places c.args.marks.now.items c.loop-lit.marks.items c.mark_literal.new.marks.items c.args.lits.now c.loop-lit.lit-index c.lit-item.result c.loop-lit-test.true c.lit-item.is c.loop-lit.invariant c.in_ok-mark_literal.ensures.has c.in_ok-mark_literal.ensures.keeps
