-- The items of the instances so far are kept.
use Rattle.smv_scope.specs.SceneTree.{program_of}
use Rattle.smv_flat.proofs.JudgeInstances.{InstancesSoFar}
use Rattle.smv_flat.proofs.judge.judge.Given as goal

abbrev pub invariant-loop-spot : goal.invariant-loop-spot
invariant-loop-spot l = InstancesSoFar (program_of l.scope.scene) l.spot
