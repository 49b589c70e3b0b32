-- The declaration of an instance is told by its actuals.
use Rattle.std.proofs.Common.{sym, ◌∙◌}
use Rattle.smv_language.specs.ProgramTree.{decl_tree}
use Rattle.smv_scope.specs.SceneTree.{program_of}
use Rattle.smv_flat.proofs.JudgeTold.{variable_here, no_instance_here, instance_here}
use Rattle.smv_flat.proofs.judge.judge_declaration.Goals as goal

pub returns-in_default : goal.returns-in_default
returns-in_default c = variable_here (program_of c.args.scope.now.scene) c.args.spot c.args.place (decl_tree c.args.decl.now) c.in_default.ensures

pub returns-in_default-instance_in : goal.returns-in_default-instance_in
returns-in_default-instance_in c =
    no_instance_here c.args.scope.now.scene c.requires.scope.1.scene c.args.spot c.args.place (decl_tree c.args.decl.now) c.in-Some.actuals c.in-Some.ensures
    c.own.result c.own.ensures.own (sym c.instance_in.ensures ∙ c.in_default-instance_in.is)

pub returns : goal.returns
returns c =
    instance_here c.args.scope.now.scene c.requires.scope.1.scene c.args.spot c.args.place (decl_tree c.args.decl.now) c.in-Some.actuals c.in-Some.ensures
    c.own.result c.own.ensures.own c.in-Some-instance_in.inner (sym c.instance_in.ensures ∙ c.in-Some-instance_in.is) c.in_ok-judged.judged c.in_ok-judged.ensures
    c.rule_of_actuals.result c.rule_of_actuals.ensures
