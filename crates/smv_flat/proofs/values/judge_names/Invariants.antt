-- The names so far are judged.
use Rattle.std.proofs.Common.{take}
use Rattle.smv_scope.specs.SceneTree.{program_of}
use Rattle.smv_flat.specs.Verdicts.{AreJudged}
use Rattle.smv_flat.proofs.values.judge_names.Given as goal

abbrev pub invariant-loop-each : goal.invariant-loop-each
invariant-loop-each l = AreJudged (program_of l.scope.scene) l.spot (take l.each-index l.names) l.next l.nested_next l.judged
