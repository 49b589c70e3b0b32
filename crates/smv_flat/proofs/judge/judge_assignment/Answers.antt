-- An assignment is told by its names, by its target and by the table.
use Rattle.smv_language.specs.ProgramTree.{assignment_tree}
use Rattle.smv_flat.proofs.JudgeAssignments.{names_told, target_told, assignment_told}
use Rattle.smv_flat.proofs.judge.judge_assignment.Goals as goal

pub returns-then-judged : goal.returns-then-judged
returns-then-judged c =
    names_told c.args.scope.now.scene c.args.spot c.args.place c.args.assigned.now.entries (assignment_tree c.args.assignment.now) c.in_ok-judged.judged c.in_ok-judged.ensures.judged c.if-judged.true

pub returns-in_default : goal.returns-in_default
returns-in_default c =
    target_told c.args.scope.now.scene c.requires.scope.1.scene c.args.spot c.args.place c.args.assigned.now.entries (assignment_tree c.args.assignment.now) c.in_ok-judged.judged
    c.in_ok-judged.ensures.judged c.if-judged.false c.in_default.ensures

pub returns : goal.returns
returns c =
    assignment_told c.args.scope.now.scene c.requires.scope.1.scene c.args.spot c.args.place c.args.assigned.now.entries c.note_assigned.new.assigned.entries (assignment_tree c.args.assignment.now)
    c.in_ok-judged.judged c.in_ok-judged.ensures.judged c.if-judged.false c.in-Some.target c.in-Some.ensures c.in_ok-met.met c.in_ok-met.ensures.met c.in_ok-met.ensures.noted
    c.rule_of_assignment.result c.rule_of_assignment.ensures
