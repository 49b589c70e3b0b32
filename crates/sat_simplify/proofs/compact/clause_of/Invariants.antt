use Rattle.std.proofs.Common.{◌≡◌, take}
use Rattle.sat_simplify.specs.CompactNumbers.{compacted_clause}
use Rattle.sat_simplify.proofs.compact.clause_of.Given as goal

abbrev pub invariant-loop-lit : goal.invariant-loop-lit
invariant-loop-lit l = l.all.items ≡ compacted_clause l.places l.gaps (take l.lit-index l.lits)
