-- The actuals so far are judged.
use Rattle.std.proofs.Common.{map, take}
use Rattle.smv_language.specs.ExpressionTree.{tree_of}
use Rattle.smv_scope.specs.SceneTree.{program_of}
use Rattle.smv_flat.specs.Verdicts.{JudgesActuals}
use Rattle.smv_flat.proofs.values.judge_actuals.Given as goal

abbrev pub invariant-loop-formal : goal.invariant-loop-formal
invariant-loop-formal l = JudgesActuals (program_of l.scope.scene) l.spot l.inner (map tree_of l.actuals) (map tree_of (take l.formal l.actuals)) l.judged
