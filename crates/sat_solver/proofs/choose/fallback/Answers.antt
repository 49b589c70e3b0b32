use Rattle.std.proofs.Common.{refl}
use Rattle.sat_solver.proofs.choose.fallback.Goals as goal

pub new-requires-clause-positive : goal.new-requires-clause-positive
new-requires-clause-positive c = (c.in-Some.ensures.some c.in-Some.var refl).0
