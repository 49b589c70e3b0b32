use Rattle.std.proofs.Common.{sym, ap, ◌∙◌}
use Rattle.std.specs.Prelude.{Err}
use Rattle.std.proofs.lemmas.Result.{err_from_is_err_and}
use Rattle.smv_expression_reader.specs.SecondPass.{has_next, name_at}
use Rattle.smv_model_reader.specs.ProgramParts.{names_at, next_name}
use Rattle.smv_expression_reader.proofs.ReadLaws.{each_pushed, each_end, each_spent, each_deep, each_none}
use Rattle.smv_model_reader.proofs.sections.names.Goals as goal
use Rattle.base_values.proofs.ResultLaws.{same_fault}
use Rattle.smv_expression_reader.specs.declared.mark.Mark.TheVariants as mark

pub returns-then-not-is_next-clause-ok : goal.returns-then-not-is_next-clause-ok
returns-then-not-is_next-clause-ok c =
    each_end (has_next mark.Comma) next_name (names_at c.args.cursor.now) c.loop-round.names c.len-most.result c.loop-round.round c.loop-round.cursor c.loop-round.invariant c.loop-round-test.true
    (sym c.is_next.ensures ∙ c.if-not-is_next.true)

pub returns-in_err-name-2-clause-deep : goal.returns-in_err-name-2-clause-deep
returns-in_err-name-2-clause-deep c = λ e.
    let exit = err_from_is_err_and c.from_residual-in_err-name-2.result c.from_residual-in_err-name-2.ensures.1 in
    each_deep (has_next mark.Comma) next_name (names_at c.args.cursor.now) c.loop-round.names c.len-most.result c.loop-round.round c.loop-round.cursor c.loop-round.invariant c.loop-round-test.true
    (sym c.is_next.ensures ∙ c.if-not-is_next.false) (ap name_at (sym c.skip.ensures) ∙ c.name-in-loop-round.ensures.deep (c.in_err-name-2.was ∙ ap Err (sym exit.2 ∙ same_fault (sym exit.1 ∙ e))))

pub returns-in_err-name-2-clause-none : goal.returns-in_err-name-2-clause-none
returns-in_err-name-2-clause-none c = λ e.
    let exit = err_from_is_err_and c.from_residual-in_err-name-2.result c.from_residual-in_err-name-2.ensures.1 in
    each_none (has_next mark.Comma) next_name (names_at c.args.cursor.now) c.loop-round.names c.len-most.result c.loop-round.round c.loop-round.cursor c.loop-round.invariant c.loop-round-test.true
    (sym c.is_next.ensures ∙ c.if-not-is_next.false) (ap name_at (sym c.skip.ensures) ∙ c.name-in-loop-round.ensures.none (c.in_err-name-2.was ∙ ap Err (sym exit.2 ∙ same_fault (sym exit.1 ∙ e))))

pub loop-round-preserved : goal.loop-round-preserved
loop-round-preserved c =
    each_pushed (has_next mark.Comma) next_name (names_at c.args.cursor.now) c.loop-round.names c.push-in-loop-round.new.self c.len-most.result c.loop-round.round c.loop-round.cursor c.name-in-loop-round.new.self c.in_ok-name-2.field-0
    c.loop-round.invariant c.loop-round-test.true (sym c.is_next.ensures ∙ c.if-not-is_next.false) (ap name_at (sym c.skip.ensures) ∙ c.in_ok-name-2.ensures.ok) c.in_ok-push-2.ensures.ok

pub returns-clause-ok : goal.returns-clause-ok
returns-clause-ok c = each_spent (has_next mark.Comma) next_name (names_at c.args.cursor.now) c.loop-round.names c.len-most.result c.loop-round.round c.loop-round.cursor c.loop-round.invariant c.loop-round-test.false
