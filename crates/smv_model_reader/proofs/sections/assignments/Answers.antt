use Rattle.std.proofs.Common.{sym, ap, ◌∙◌, map}
use Rattle.std.specs.Prelude.{Err}
use Rattle.std.proofs.lemmas.Result.{err_from_is_err_and}
use Rattle.smv_language.specs.ProgramTree.{assignment_tree}
use Rattle.smv_model_reader.specs.ProgramParts.{begins_assignment, assigns_at, assignment_at}
use Rattle.smv_expression_reader.proofs.ReadLaws.{each_viewed, each_end, each_spent, each_deep, each_none}
use Rattle.smv_model_reader.proofs.sections.assignments.Goals as goal
use Rattle.base_values.proofs.ResultLaws.{same_fault}

pub returns-then-not-begins_assignment-clause-ok : goal.returns-then-not-begins_assignment-clause-ok
returns-then-not-begins_assignment-clause-ok c =
    each_end begins_assignment assignment_at (assigns_at c.args.cursor.now) (map assignment_tree c.loop-round.list) c.len-most.result c.loop-round.round c.loop-round.cursor c.loop-round.invariant c.loop-round-test.true
    (sym c.begins_assignment.ensures ∙ c.if-not-begins_assignment.true)

pub returns-in_err-assignment-clause-deep : goal.returns-in_err-assignment-clause-deep
returns-in_err-assignment-clause-deep c = λ e.
    let exit = err_from_is_err_and c.from_residual.result c.from_residual.ensures.1 in
    each_deep begins_assignment assignment_at (assigns_at c.args.cursor.now) (map assignment_tree c.loop-round.list) c.len-most.result c.loop-round.round c.loop-round.cursor c.loop-round.invariant c.loop-round-test.true
    (sym c.begins_assignment.ensures ∙ c.if-not-begins_assignment.false) (c.assignment.ensures.deep (c.in_err-assignment.was ∙ ap Err (sym exit.2 ∙ same_fault (sym exit.1 ∙ e))))

pub returns-in_err-assignment-clause-none : goal.returns-in_err-assignment-clause-none
returns-in_err-assignment-clause-none c = λ e.
    let exit = err_from_is_err_and c.from_residual.result c.from_residual.ensures.1 in
    each_none begins_assignment assignment_at (assigns_at c.args.cursor.now) (map assignment_tree c.loop-round.list) c.len-most.result c.loop-round.round c.loop-round.cursor c.loop-round.invariant c.loop-round-test.true
    (sym c.begins_assignment.ensures ∙ c.if-not-begins_assignment.false) (c.assignment.ensures.none (c.in_err-assignment.was ∙ ap Err (sym exit.2 ∙ same_fault (sym exit.1 ∙ e))))

pub loop-round-preserved : goal.loop-round-preserved
loop-round-preserved c =
    each_viewed assignment_tree begins_assignment assignment_at (assigns_at c.args.cursor.now) c.loop-round.list c.push.new.self c.len-most.result c.loop-round.round c.loop-round.cursor c.assignment.new.cursor c.in_ok-assignment.field-0
    c.loop-round.invariant c.loop-round-test.true (sym c.begins_assignment.ensures ∙ c.if-not-begins_assignment.false) (c.in_ok-assignment.ensures.ok) c.in_ok-push.ensures.ok

pub returns-clause-ok : goal.returns-clause-ok
returns-clause-ok c = each_spent begins_assignment assignment_at (assigns_at c.args.cursor.now) (map assignment_tree c.loop-round.list) c.len-most.result c.loop-round.round c.loop-round.cursor c.loop-round.invariant c.loop-round-test.false
