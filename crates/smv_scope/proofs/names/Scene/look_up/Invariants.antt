-- What the parts that are left mean at the instance reached is what all mean.
use Rattle.std.proofs.Common.{◌≡◌, length}
use Rattle.smv_scope.specs.TableLookUps.{found_at}
use Rattle.smv_scope.proofs.names.Scene.look_up.Given as goal

abbrev pub decreases-loop-rest : goal.decreases-loop-rest
decreases-loop-rest l = length l.rest

abbrev pub invariant-loop-rest : goal.invariant-loop-rest
invariant-loop-rest l = found_at l.self l.here l.rest ≡ found_at l.self l.spot l.parts
