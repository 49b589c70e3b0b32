use Rattle.std.proofs.Common.{◌++◌}
use Rattle.cut_tables.proofs.TextLaws.{lines_left, row_on}
use Rattle.cut_tables.proofs.print.append_rows.Goals as goal

pub loop-i-preserved : goal.loop-i-preserved
loop-i-preserved c =
    row_on c.args.rows.now c.args.entries.now c.loop-i.i c.index-rows-i.result c.as_slice.result.now c.loop-i.text c.append_row_at.new.text
    (c.args.text.now ++ lines_left c.args.rows.now c.args.entries.now 0) c.loop-i-test.true c.index-rows-i.is c.as_slice.ensures c.in_ok-append_row_at.ensures c.loop-i.invariant
