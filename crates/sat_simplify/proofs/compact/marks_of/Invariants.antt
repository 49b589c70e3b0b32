use Rattle.std.proofs.Common.{take, All}
use Rattle.sat_simplify.specs.CompactNumbers.{IsMarked}
use Rattle.sat_simplify.proofs.compact.marks_of.Given as goal

abbrev pub invariant-loop-clause : goal.invariant-loop-clause
invariant-loop-clause l = All (All (IsMarked l.places l.marks.items)) (take l.clause-index l.list)
