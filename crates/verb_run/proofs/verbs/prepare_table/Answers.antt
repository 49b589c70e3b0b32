use Rattle.verb_run.proofs.TabulatedLaws.{no_table, a_table_if}
use Rattle.verb_run.proofs.verbs.prepare_table.Goals as goal

pub returns-clause-refused : goal.returns-clause-refused
returns-clause-refused g c r e = no_table _ _ _ _ _ _ r (c.load_table.ensures.refused r e)

pub returns-clause-ok : goal.returns-clause-ok
returns-clause-ok g c = a_table_if _ _ _ _ _ _ c.load_table.result c.load_table.ensures.asked c.load_table.ensures.ok c.load_table.ensures.tops

pub returns-clause-asked : goal.returns-clause-asked
returns-clause-asked g c = c.load_table.ensures.asked
