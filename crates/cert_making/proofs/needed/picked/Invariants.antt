use Rattle.std.proofs.Common.{All, Contains}
use Rattle.cert_making.proofs.needed.picked.Given as goal

-- those so far are of the list
abbrev pub invariant-loop-place : goal.invariant-loop-place
invariant-loop-place l = All (Contains l.list) l.clauses
