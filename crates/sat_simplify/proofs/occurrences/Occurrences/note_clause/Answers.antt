use Rattle.sat_simplify.proofs.OccurringLaws.{noted_more}
use Rattle.sat_simplify.proofs.occurrences.Occurrences.note_clause.Goals as goal

pub loop-lit-preserved : goal.loop-lit-preserved
loop-lit-preserved c =
    noted_more c.args.self.now c.loop-lit.self c.note.new.self c.args.lits.now c.loop-lit.lit-index c.lit-item.result c.args.number c.loop-lit-test.true c.lit-item.is c.loop-lit.invariant c.in_ok-note.ensures.has c.in_ok-note.ensures.keeps
