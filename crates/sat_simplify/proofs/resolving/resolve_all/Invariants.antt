use Rattle.std.proofs.Common.{◌≡◌, take}
use Rattle.sat_simplify.specs.Elimination.{resolvents}
use Rattle.sat_simplify.proofs.resolving.resolve_all.Given as goal

abbrev pub invariant-loop-clause : goal.invariant-loop-clause
invariant-loop-clause l = l.list ≡ resolvents l.lit (take l.clause-index l.with) l.against
