-- The actuals are judged one after another.
use Rattle.std.proofs.Common.{map}
use Rattle.smv_language.specs.ExpressionTree.{tree_of}
use Rattle.smv_scope.specs.SceneTree.{program_of}
use Rattle.smv_flat.proofs.JudgeHanded.{no_actuals, actuals_step, actuals_end}
use Rattle.smv_flat.proofs.values.judge_actuals.Goals as goal

pub loop-formal-init : goal.loop-formal-init
loop-formal-init c = no_actuals (program_of c.args.scope.now.scene) c.args.spot c.args.inner (map tree_of c.args.actuals.now)

pub loop-formal-preserved : goal.loop-formal-preserved
loop-formal-preserved c =
    actuals_step (program_of c.args.scope.now.scene) c.args.spot c.args.inner c.args.actuals.now c.loop-formal.formal c.index-actuals-formal.result c.loop-formal-test.true c.index-actuals-formal.is
    c.loop-formal.judged c.in_ok-one.one c.joined-judged.result c.loop-formal.invariant c.in_ok-one.ensures c.joined-judged.ensures

pub returns : goal.returns
returns c = actuals_end (program_of c.args.scope.now.scene) c.args.spot c.args.inner c.args.actuals.now c.loop-formal.formal c.loop-formal-test.false c.loop-formal.judged c.loop-formal.invariant
