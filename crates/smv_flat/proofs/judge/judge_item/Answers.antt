-- An item is told by what it is.
use Rattle.smv_scope.specs.SceneTree.{program_of}
use Rattle.smv_flat.proofs.JudgeTold.{declared_item, defined_item, assigned_item, init_item, invar_item, trans_item, constants_item}
use Rattle.smv_flat.proofs.judge.judge_item.Goals as goal

pub returns-in-Declared : goal.returns-in-Declared
returns-in-Declared c =
    declared_item (program_of c.args.scope.now.scene) c.args.spot c.args.place c.args.assigned.now.entries c.args.item c.judge_declaration.result
    c.in-Declared.field-0 c.in-Declared.decl c.in-Declared.is c.judge_declaration.ensures

pub returns-in-Defined : goal.returns-in-Defined
returns-in-Defined c =
    defined_item (program_of c.args.scope.now.scene) c.args.spot c.args.place c.args.assigned.now.entries c.args.item c.judge_definition.result
    c.in-Defined.define c.in-Defined.is c.judge_definition.ensures

pub returns-in-Assigned : goal.returns-in-Assigned
returns-in-Assigned c =
    assigned_item (program_of c.args.scope.now.scene) c.args.spot c.args.place c.args.assigned.now.entries c.judge_assignment.new.assigned.entries c.args.item c.judge_assignment.result
    c.in-Assigned.assignment c.in-Assigned.is c.judge_assignment.ensures

pub returns-in-Constants : goal.returns-in-Constants
returns-in-Constants c = constants_item (program_of c.args.scope.now.scene) c.args.spot c.args.place c.args.assigned.now.entries c.args.item c.in-Constants.field-0 c.in-Constants.is

pub returns-in-Trans : goal.returns-in-Trans
returns-in-Trans c =
    trans_item (program_of c.args.scope.now.scene) c.args.spot c.args.place c.args.assigned.now.entries c.args.item c.judge_step.result c.in-Trans.e c.in-Trans.is c.judge_step.ensures

pub returns-in-Init : goal.returns-in-Init
returns-in-Init c =
    init_item (program_of c.args.scope.now.scene) c.args.spot c.args.place c.args.assigned.now.entries c.args.item c.judge_moment.result c.in-Init.e c.in-Init.is c.judge_moment.ensures.first

pub returns-in-Invar : goal.returns-in-Invar
returns-in-Invar c =
    invar_item (program_of c.args.scope.now.scene) c.args.spot c.args.place c.args.assigned.now.entries c.args.item c.judge_moment-in-Invar.result c.in-Invar.e c.in-Invar.is c.judge_moment-in-Invar.ensures.each
