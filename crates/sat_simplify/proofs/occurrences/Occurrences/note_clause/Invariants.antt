use Rattle.std.proofs.Common.{take}
use Rattle.sat_simplify.specs.OccurrenceLists.{HasNoted}
use Rattle.sat_simplify.proofs.occurrences.Occurrences.note_clause.Given as goal

abbrev pub invariant-loop-lit : goal.invariant-loop-lit
invariant-loop-lit l = HasNoted l.initial.self l.self (take l.lit-index l.lits) l.number
