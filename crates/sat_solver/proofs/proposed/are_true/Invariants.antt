use Rattle.std.proofs.Common.{◌≡◌, All, Some, take, true}
use Rattle.sat_clauses.specs.Assignment.{value_of}
use Rattle.sat_solver.proofs.proposed.are_true.Given as goal

-- the literals so far are true
abbrev pub invariant-loop-lit : goal.invariant-loop-lit
invariant-loop-lit l = All (λ m. value_of l.assign m ≡ Some true) (take l.lit-index l.lits)
