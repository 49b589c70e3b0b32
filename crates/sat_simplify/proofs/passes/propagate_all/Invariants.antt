use Rattle.sat_simplify.specs.ClauseBase.{Becomes}
use Rattle.sat_simplify.proofs.passes.propagate_all.Given as goal

abbrev pub invariant-loop-round : goal.invariant-loop-round
invariant-loop-round l = Becomes l.initial.base l.base
