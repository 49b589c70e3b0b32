use Rattle.std.proofs.Common.{◌≡◌, take}
use Rattle.cut_frames.specs.OwnVariables.{apart_clause}
use Rattle.cut_frames.proofs.apart.clause_apart.Given as goal

abbrev pub invariant-loop-lit : goal.invariant-loop-lit
invariant-loop-lit l = l.apart.items ≡ apart_clause l.places (take l.lit-index l.lits)
