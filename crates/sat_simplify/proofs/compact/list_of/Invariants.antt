use Rattle.std.proofs.Common.{◌≡◌, take}
use Rattle.sat_simplify.specs.CompactNumbers.{compacted_list}
use Rattle.sat_simplify.proofs.compact.list_of.Given as goal

abbrev pub invariant-loop-clause : goal.invariant-loop-clause
invariant-loop-clause l = l.new ≡ compacted_list l.places l.gaps (take l.clause-index l.list)
