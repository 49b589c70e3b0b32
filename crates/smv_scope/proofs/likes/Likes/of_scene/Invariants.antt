-- What the instances so far repeat is known.
use Rattle.smv_scope.proofs.LikeLaws.{LikesSoFar}
use Rattle.smv_scope.proofs.likes.Likes.of_scene.Given as goal

abbrev pub invariant-loop-spot : goal.invariant-loop-spot
invariant-loop-spot l = LikesSoFar l.scene l.spot l.likes.of.items l.firsts.items
