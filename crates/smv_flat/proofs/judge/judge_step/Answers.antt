-- An expression of a moment and the next is told by what is judged of it.
use Rattle.smv_language.specs.ExpressionTree.{tree_of}
use Rattle.smv_scope.specs.SceneTree.{program_of}
use Rattle.smv_flat.proofs.JudgeItems.{trans_told}
use Rattle.smv_flat.proofs.judge.judge_step.Goals as goal

pub returns : goal.returns
returns c =
    trans_told (program_of c.args.scope.now.scene) c.args.spot (tree_of c.args.e.now) c.in_ok-judged.judged c.rule_of_step.result c.in_ok-judged.ensures.judged c.rule_of_step.ensures
