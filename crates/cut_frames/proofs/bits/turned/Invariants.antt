use Rattle.std.proofs.Common.{◌≡◌, map, take}
use Rattle.sat_clauses.specs.Literal.{opposite}
use Rattle.cut_frames.proofs.bits.turned.Given as goal

abbrev pub invariant-loop-lit : goal.invariant-loop-lit
invariant-loop-lit l = l.all.items ≡ map opposite (take l.lit-index l.lits)
