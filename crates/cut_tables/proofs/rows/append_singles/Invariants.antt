-- the rows and the sets that are left are all of them
use Rattle.std.proofs.Common.{◌≡◌, ◌≤◌, ◌++◌, map, ◌∷◌, []}
use Rattle.std.specs.List.{range_with_len}
use Rattle.cut_tables.proofs.RowLemmas.{singles_left}
use Rattle.cut_tables.proofs.rows.append_singles.Given as goal

abbrev pub invariant-loop-left : goal.invariant-loop-left
invariant-loop-left l = (l.left ≤ l.faults) × (l.rows ++ singles_left l.faults l.left ≡ l.initial.rows ++ map (λ i. i ∷ []) (range_with_len 1 l.faults))

abbrev pub decreases-loop-left : goal.decreases-loop-left
decreases-loop-left l = l.left
