use Rattle.sat_simplify.specs.ClauseBase.{Becomes}
use Rattle.sat_simplify.proofs.passes.eliminate_all.Given as goal

abbrev pub invariant-loop-turn : goal.invariant-loop-turn
invariant-loop-turn l = Becomes l.initial.base l.base
