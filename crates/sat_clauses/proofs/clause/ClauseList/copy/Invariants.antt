use Rattle.std.proofs.Common.{◌≡◌, take}
use Rattle.sat_clauses.proofs.clause.ClauseList.copy.Given as goal

-- the clauses so far are copied
abbrev pub invariant-loop-clause : goal.invariant-loop-clause
invariant-loop-clause l = l.list ≡ take l.clause-index l.clause-items
