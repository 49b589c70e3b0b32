-- The items so far are kept, and the table has their times.
use Rattle.smv_scope.specs.SceneTree.{program_of}
use Rattle.smv_flat.proofs.JudgeInstances.{InstanceSoFar}
use Rattle.smv_flat.proofs.judge.judge_instance.Given as goal

abbrev pub invariant-loop-place : goal.invariant-loop-place
invariant-loop-place l = InstanceSoFar (program_of l.scope.scene) l.spot l.place l.assigned.entries
