-- A define is told by its value and by whether it needs itself.
use Rattle.smv_language.specs.ProgramTree.{define_tree}
use Rattle.smv_flat.proofs.JudgeTold.{definition_here}
use Rattle.smv_flat.proofs.judge.judge_definition.Goals as goal

pub returns : goal.returns
returns c =
    definition_here c.args.scope.now.scene c.requires.scope.1.scene c.args.scope.now.needs c.requires.scope.1.needs c.args.spot c.args.place (define_tree c.args.define.now) c.in_ok-judged.judged c.in_ok-judged.ensures.judged
    c.own.result c.own.ensures.own c.is_on_meaning_circle-circle.result c.is_on_meaning_circle-circle.ensures c.rule_of_definition.result c.rule_of_definition.ensures
