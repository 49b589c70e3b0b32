use Rattle.std.proofs.Common.{◌≡◌, ◌++◌, take}
use Rattle.sat_simplify.specs.Elimination.{resolvents_with}
use Rattle.sat_simplify.proofs.resolving.resolve_with.Given as goal

abbrev pub invariant-loop-other : goal.invariant-loop-other
invariant-loop-other l = l.list ≡ l.initial.list ++ resolvents_with l.lit (take l.other-index l.against) l.with
