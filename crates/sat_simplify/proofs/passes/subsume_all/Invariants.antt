use Rattle.sat_simplify.specs.ClauseBase.{Becomes}
use Rattle.sat_simplify.proofs.passes.subsume_all.Given as goal

abbrev pub invariant-loop-i : goal.invariant-loop-i
invariant-loop-i l = Becomes l.initial.base l.base
