use Rattle.sat_simplify.specs.ClauseBase.{Becomes}
use Rattle.sat_simplify.proofs.passes.eliminate_unread.Given as goal

abbrev pub invariant-loop-var : goal.invariant-loop-var
invariant-loop-var l = Becomes l.initial.base l.base
