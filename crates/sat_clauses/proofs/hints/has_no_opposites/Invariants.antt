use Rattle.std.proofs.Common.{All, take}
use Rattle.sat_clauses.specs.Hints.{LacksOpposite}
use Rattle.sat_clauses.proofs.hints.has_no_opposites.Given as goal

-- no literal so far has its opposite in the clause
abbrev pub invariant-loop-lit : goal.invariant-loop-lit
invariant-loop-lit l = All (LacksOpposite l.lits) (take l.lit-index l.lits)
