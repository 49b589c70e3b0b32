use Rattle.std.proofs.Common.{take, map}
use Rattle.sat_simplify.specs.ClauseBase.{IsEntered}
use Rattle.sat_simplify.specs.Unread.{compacted_at}
use Rattle.sat_simplify.proofs.unread.base_at.Given as goal

abbrev pub invariant-loop-k : goal.invariant-loop-k
invariant-loop-k l = IsEntered l.places (take l.k (map (compacted_at l.places l.gaps l.list) l.at)) l.base
