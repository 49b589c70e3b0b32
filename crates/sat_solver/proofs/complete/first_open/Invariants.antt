use Rattle.std.proofs.Common.{◌-◌}
use Rattle.sat_solver.specs.Complete.{WouldHoldBetween}
use Rattle.sat_solver.proofs.complete.first_open.Given as goal

-- the clauses so far would hold
abbrev pub invariant-loop-i : goal.invariant-loop-i
invariant-loop-i g l = WouldHoldBetween l.assign (g.S.Store.held l.clauses).clauses l.from l.i

abbrev pub decreases-loop-i : goal.decreases-loop-i
decreases-loop-i g l = l.to - l.i
