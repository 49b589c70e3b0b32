use Rattle.std.proofs.Common.{take}
use Rattle.sat_simplify.specs.ClauseBase.{AddsAll}
use Rattle.sat_simplify.proofs.base.Base.add_all.Given as goal

abbrev pub invariant-loop-clause : goal.invariant-loop-clause
invariant-loop-clause l = AddsAll l.initial.self l.self (take l.clause-index l.list)
