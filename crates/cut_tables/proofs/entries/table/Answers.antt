use Rattle.cut_tables.proofs.TableLemmas.{table_of, told_table}
use Rattle.cut_tables.proofs.entries.table.Goals as goal

pub returns-clause-table : goal.returns-clause-table
returns-clause-table c =
    table_of c.args.faults c.args.size c.args.columns.now (record { rows = c.in_ok-rows.rows; entries = c.in_ok-entries.entries; endings = c.in_ok-endings.endings })
    c.in_ok-rows.ensures c.in_ok-entries.ensures c.in_ok-endings.ensures

pub returns-clause-told : goal.returns-clause-told
returns-clause-told c found told =
    told_table c.args.faults c.args.size c.args.columns.now found (record { rows = c.in_ok-rows.rows; entries = c.in_ok-entries.entries; endings = c.in_ok-endings.endings })
    (table_of c.args.faults c.args.size c.args.columns.now (record { rows = c.in_ok-rows.rows; entries = c.in_ok-entries.entries; endings = c.in_ok-endings.endings })
    c.in_ok-rows.ensures c.in_ok-entries.ensures c.in_ok-endings.ensures)
    told
