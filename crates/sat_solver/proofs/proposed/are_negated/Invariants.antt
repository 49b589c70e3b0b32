use Rattle.std.proofs.Common.{All, Contains, take}
use Rattle.sat_clauses.specs.Literal.{opposite}
use Rattle.sat_solver.proofs.proposed.are_negated.Given as goal

-- the literals so far are negated assumptions
abbrev pub invariant-loop-lit : goal.invariant-loop-lit
invariant-loop-lit l = All (λ m. Contains l.assumptions (opposite m)) (take l.lit-index l.lits)
