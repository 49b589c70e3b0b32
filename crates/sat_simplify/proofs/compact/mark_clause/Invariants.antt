use Rattle.std.proofs.Common.{take}
use Rattle.sat_simplify.specs.CompactNumbers.{HasMarked}
use Rattle.sat_simplify.proofs.compact.mark_clause.Given as goal

abbrev pub invariant-loop-lit : goal.invariant-loop-lit
invariant-loop-lit l = HasMarked l.places l.initial.marks.items l.marks.items (take l.lit-index l.lits)
