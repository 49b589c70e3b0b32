use Rattle.std.proofs.Common.{◌≡◌, map, take}
use Rattle.sat_clauses.specs.Literal.{opposite}
use Rattle.sat_circuits.proofs.word.opposites.Given as goal

abbrev pub invariant-loop-lit : goal.invariant-loop-lit
invariant-loop-lit l = l.opposites ≡ map opposite (take l.lit-index l.lit-items)
