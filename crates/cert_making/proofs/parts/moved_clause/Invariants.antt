use Rattle.std.proofs.Common.{◌≡◌, map, take}
use Rattle.sat_clauses.specs.States.{moved_on}
use Rattle.cert_making.proofs.parts.moved_clause.Given as goal

-- the literals so far are moved
abbrev pub invariant-loop-lit : goal.invariant-loop-lit
invariant-loop-lit l = l.lits.items ≡ map (moved_on l.bits) (take l.lit-index l.lit-items)
