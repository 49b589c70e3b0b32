use Rattle.std.proofs.Common.{◌≡◌, ◌∷◌, take}
use Rattle.sat_clauses.specs.Literal.{opposite}
use Rattle.cut_frames.specs.Roles.{renamed_clause}
use Rattle.cut_frames.proofs.guarded.renamed_under.Given as goal

abbrev pub invariant-loop-lit : goal.invariant-loop-lit
invariant-loop-lit l = l.all.items ≡ opposite l.fn.guard ∷ renamed_clause l.places l.base (take l.lit-index l.lits)
