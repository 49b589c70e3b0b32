use Rattle.std.proofs.Common.{not, sym, ap, ◌∙◌}
use Rattle.std.specs.Prelude.{Err}
use Rattle.std.proofs.lemmas.Result.{err_from_is_err_and}
use Rattle.smv_expression_reader.proofs.ReadLaws.{each_pushed, each_end, each_spent, each_deep, each_none}
use Rattle.smv_expression_reader.specs.SecondPass.{text_at}
use Rattle.fault_reader.specs.InstructionParts.{in_braces, texts_at}
use Rattle.fault_reader.proofs.build.mark_texts.Goals as goal
use Rattle.base_values.proofs.ResultLaws.{same_fault}

pub returns-then-is_next-clause-ok : goal.returns-then-is_next-clause-ok
returns-then-is_next-clause-ok c =
    each_end in_braces text_at (texts_at c.args.cursor.now) c.loop-round.list c.len-most.result c.loop-round.round c.loop-round.cursor c.loop-round.invariant c.loop-round-test.true
    (ap not (sym c.is_next.ensures ∙ c.if-is_next.true))

pub returns-in_err-text-clause-deep : goal.returns-in_err-text-clause-deep
returns-in_err-text-clause-deep c = λ e.
    let exit = err_from_is_err_and c.from_residual.result c.from_residual.ensures.1 in
    each_deep in_braces text_at (texts_at c.args.cursor.now) c.loop-round.list c.len-most.result c.loop-round.round c.loop-round.cursor c.loop-round.invariant c.loop-round-test.true
    (ap not (sym c.is_next.ensures ∙ c.if-is_next.false)) (c.text.ensures.deep (c.in_err-text.was ∙ ap Err (sym exit.2 ∙ same_fault (sym exit.1 ∙ e))))

pub returns-in_err-text-clause-none : goal.returns-in_err-text-clause-none
returns-in_err-text-clause-none c = λ e.
    let exit = err_from_is_err_and c.from_residual.result c.from_residual.ensures.1 in
    each_none in_braces text_at (texts_at c.args.cursor.now) c.loop-round.list c.len-most.result c.loop-round.round c.loop-round.cursor c.loop-round.invariant c.loop-round-test.true
    (ap not (sym c.is_next.ensures ∙ c.if-is_next.false)) (c.text.ensures.none (c.in_err-text.was ∙ ap Err (sym exit.2 ∙ same_fault (sym exit.1 ∙ e))))

pub loop-round-preserved : goal.loop-round-preserved
loop-round-preserved c =
    each_pushed in_braces text_at (texts_at c.args.cursor.now) c.loop-round.list c.push.new.self c.len-most.result c.loop-round.round c.loop-round.cursor c.text.new.self c.in_ok-text.field-0
    c.loop-round.invariant c.loop-round-test.true (ap not (sym c.is_next.ensures ∙ c.if-is_next.false)) c.in_ok-text.ensures.ok c.in_ok-push.ensures.ok

pub returns-clause-ok : goal.returns-clause-ok
returns-clause-ok c = each_spent in_braces text_at (texts_at c.args.cursor.now) c.loop-round.list c.len-most.result c.loop-round.round c.loop-round.cursor c.loop-round.invariant c.loop-round-test.false
