-- The names are judged one after another.
use Rattle.std.proofs.Common.{List, Bool}
use Rattle.smv_language.specs.ProgramTree.{Path}
use Rattle.smv_scope.specs.SceneTree.{program_of}
use Rattle.smv_flat.specs.Verdicts.{AreJudged}
use Rattle.smv_flat.proofs.JudgeLists.{take_step, take_end}
use Rattle.smv_flat.proofs.JudgeValues.{no_names}
use Rattle.smv_flat.proofs.values.judge_names.Goals as goal

pub loop-each-init : goal.loop-each-init
loop-each-init c = no_names (program_of c.args.scope.now.scene) c.args.spot c.args.next c.args.nested_next

pub loop-each-preserved : goal.loop-each-preserved
loop-each-preserved c =
    take_step (λ (us : List (Path × Bool)). AreJudged (program_of c.args.scope.now.scene) c.args.spot us c.args.next c.args.nested_next c.with_name-judged.result)
    c.args.names.now c.loop-each.each-index c.each-item.result c.loop-each-test.true c.each-item.is
    (c.with_name-judged.ensures _ c.args.next c.args.nested_next c.loop-each.invariant)

pub returns : goal.returns
returns c =
    take_end (λ (us : List (Path × Bool)). AreJudged (program_of c.args.scope.now.scene) c.args.spot us c.args.next c.args.nested_next c.loop-each.judged)
    c.args.names.now c.loop-each.each-index c.loop-each-test.false c.loop-each.invariant
