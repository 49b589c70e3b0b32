-- An expression of one moment is told by what is judged of it.
use Rattle.smv_language.specs.ExpressionTree.{tree_of}
use Rattle.smv_scope.specs.SceneTree.{program_of}
use Rattle.smv_flat.proofs.JudgeItems.{init_told, invar_told}
use Rattle.smv_flat.proofs.judge.judge_moment.Goals as goal

pub returns-clause-first : goal.returns-clause-first
returns-clause-first c =
    init_told (program_of c.args.scope.now.scene) c.args.spot (tree_of c.args.e.now) c.in_ok-judged.judged c.rule_of_now.result c.in_ok-judged.ensures.judged c.rule_of_now.ensures

pub returns-clause-each : goal.returns-clause-each
returns-clause-each c =
    invar_told (program_of c.args.scope.now.scene) c.args.spot (tree_of c.args.e.now) c.in_ok-judged.judged c.rule_of_now.result c.in_ok-judged.ensures.judged c.rule_of_now.ensures
