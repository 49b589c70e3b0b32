use Rattle.std.proofs.Common.{◌≡◌, ◌-◌, All, Some, true, take, length}
use Rattle.sat_clauses.specs.Assignment.{value_of}
use Rattle.sat_solver.proofs.find.open_assumption.Given as goal

-- the assumptions so far are true
abbrev pub invariant-loop-place : goal.invariant-loop-place
invariant-loop-place l = All (λ p. value_of l.assign p ≡ Some true) (take l.place l.assumptions)

abbrev pub decreases-loop-place : goal.decreases-loop-place
decreases-loop-place l = length l.assumptions - l.place
