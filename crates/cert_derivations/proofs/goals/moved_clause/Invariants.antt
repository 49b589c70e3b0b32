-- the literals so far, moved on
use Rattle.std.proofs.Common.{◌≡◌, take}
use Rattle.std.specs.Prelude.{map}
use Rattle.sat_clauses.specs.States.{moved_on}
use Rattle.cert_derivations.proofs.goals.moved_clause.Given as goal

abbrev pub invariant-loop-lit : goal.invariant-loop-lit
invariant-loop-lit l = l.list ≡ map (moved_on l.bits) (take l.lit-index l.lits)
