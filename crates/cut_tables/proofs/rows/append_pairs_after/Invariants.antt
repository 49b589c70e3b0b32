-- the rows and the fault's pairs that are left are all of them
use Rattle.std.proofs.Common.{◌≡◌, ◌≤◌, ◌++◌}
use Rattle.cut_tables.specs.Tables.{pairs_after}
use Rattle.cut_tables.proofs.RowLemmas.{after_left}
use Rattle.cut_tables.proofs.rows.append_pairs_after.Given as goal

abbrev pub invariant-loop-left : goal.invariant-loop-left
invariant-loop-left l = (l.left ≤ l.after) × (l.rows ++ after_left l.first l.faults l.left ≡ l.initial.rows ++ pairs_after l.first l.after)

abbrev pub decreases-loop-left : goal.decreases-loop-left
decreases-loop-left l = l.left
