use Rattle.std.proofs.Common.{◌-◌}
use Rattle.sat_solver.proofs.ProposedLemmas.{AreTrueUpTo}
use Rattle.sat_solver.proofs.proposed.all_true.Given as goal

-- the added clauses so far are true
abbrev pub invariant-loop-i : goal.invariant-loop-i
invariant-loop-i l = AreTrueUpTo l.assign l.store.clauses l.marks l.i

abbrev pub decreases-loop-i : goal.decreases-loop-i
decreases-loop-i l = l.count - l.i
