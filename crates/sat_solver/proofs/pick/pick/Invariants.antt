use Rattle.std.proofs.Common.{take}
use Rattle.sat_solver.specs.Pick.{IsBest}
use Rattle.sat_solver.proofs.pick.pick.Given as goal

abbrev pub invariant-loop-lit : goal.invariant-loop-lit
invariant-loop-lit l = IsBest l.trail.vars l.trail.lits l.but (take l.lit-index l.lits) l.best.code l.best.rank
