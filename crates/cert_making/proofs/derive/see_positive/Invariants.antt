use Rattle.std.proofs.Common.{◌≤◌, All, take}
use Rattle.sat_clauses.specs.Literal.{Literal}
use Rattle.cert_making.proofs.derive.see_positive.Given as goal

-- the variables so far are positive
abbrev pub invariant-loop-lit : goal.invariant-loop-lit
invariant-loop-lit l = All (λ (m : Literal). 1 ≤ m.var) (take l.lit-index l.lits)
