-- the rows and the pairs that are left are all of them
use Rattle.std.proofs.Common.{◌≡◌, ◌≤◌, ◌++◌}
use Rattle.cut_tables.specs.Tables.{pairs_from}
use Rattle.cut_tables.proofs.RowLemmas.{pairs_left}
use Rattle.cut_tables.proofs.rows.append_pairs.Given as goal

abbrev pub invariant-loop-left : goal.invariant-loop-left
invariant-loop-left l = (l.left ≤ l.faults) × (l.rows ++ pairs_left l.faults l.left ≡ l.initial.rows ++ pairs_from 1 l.faults)

abbrev pub decreases-loop-left : goal.decreases-loop-left
decreases-loop-left l = l.left
