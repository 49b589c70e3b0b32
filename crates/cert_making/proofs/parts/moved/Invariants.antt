use Rattle.std.proofs.Common.{◌≡◌, map, take}
use Rattle.sat_clauses.specs.States.{moved_on}
use Rattle.cert_making.proofs.parts.moved.Given as goal

-- the clauses so far are moved
abbrev pub invariant-loop-clause : goal.invariant-loop-clause
invariant-loop-clause l = l.moved ≡ map (map (moved_on l.system.state_bits)) (take l.clause-index l.clause-items)
