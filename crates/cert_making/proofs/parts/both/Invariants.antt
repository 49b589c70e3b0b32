use Rattle.std.proofs.Common.{◌≡◌, ◌++◌, take}
use Rattle.cert_making.proofs.parts.both.Given as goal

-- the clauses so far are appended
abbrev pub invariant-loop-clause : goal.invariant-loop-clause
invariant-loop-clause l = l.all ≡ l.list ++ take l.clause-index l.clause-items
