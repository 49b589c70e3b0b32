use Rattle.std.proofs.Common.{sym, ap, ◌∙◌, map}
use Rattle.std.specs.Prelude.{Err}
use Rattle.std.proofs.lemmas.Result.{err_from_is_err_and}
use Rattle.smv_language.specs.ProgramTree.{define_tree}
use Rattle.smv_expression_reader.specs.SecondPass.{has_next}
use Rattle.smv_model_reader.specs.ProgramParts.{defines_at, define_at}
use Rattle.smv_expression_reader.proofs.ReadLaws.{each_viewed, each_end, each_spent, each_deep, each_none}
use Rattle.smv_model_reader.proofs.sections.defines.Goals as goal
use Rattle.base_values.proofs.ResultLaws.{same_fault}
use Rattle.smv_expression_reader.specs.declared.mark.Mark.TheVariants as mark

pub returns-then-not-is_next-clause-ok : goal.returns-then-not-is_next-clause-ok
returns-then-not-is_next-clause-ok c =
    each_end (has_next mark.Name) define_at (defines_at c.args.cursor.now) (map define_tree c.loop-round.list) c.len-most.result c.loop-round.round c.loop-round.cursor c.loop-round.invariant c.loop-round-test.true
    (sym c.is_next.ensures ∙ c.if-not-is_next.true)

pub returns-in_err-define-clause-deep : goal.returns-in_err-define-clause-deep
returns-in_err-define-clause-deep c = λ e.
    let exit = err_from_is_err_and c.from_residual.result c.from_residual.ensures.1 in
    each_deep (has_next mark.Name) define_at (defines_at c.args.cursor.now) (map define_tree c.loop-round.list) c.len-most.result c.loop-round.round c.loop-round.cursor c.loop-round.invariant c.loop-round-test.true
    (sym c.is_next.ensures ∙ c.if-not-is_next.false) (c.define.ensures.deep (c.in_err-define.was ∙ ap Err (sym exit.2 ∙ same_fault (sym exit.1 ∙ e))))

pub returns-in_err-define-clause-none : goal.returns-in_err-define-clause-none
returns-in_err-define-clause-none c = λ e.
    let exit = err_from_is_err_and c.from_residual.result c.from_residual.ensures.1 in
    each_none (has_next mark.Name) define_at (defines_at c.args.cursor.now) (map define_tree c.loop-round.list) c.len-most.result c.loop-round.round c.loop-round.cursor c.loop-round.invariant c.loop-round-test.true
    (sym c.is_next.ensures ∙ c.if-not-is_next.false) (c.define.ensures.none (c.in_err-define.was ∙ ap Err (sym exit.2 ∙ same_fault (sym exit.1 ∙ e))))

pub loop-round-preserved : goal.loop-round-preserved
loop-round-preserved c =
    each_viewed define_tree (has_next mark.Name) define_at (defines_at c.args.cursor.now) c.loop-round.list c.push.new.self c.len-most.result c.loop-round.round c.loop-round.cursor c.define.new.cursor c.in_ok-define.field-0
    c.loop-round.invariant c.loop-round-test.true (sym c.is_next.ensures ∙ c.if-not-is_next.false) (c.in_ok-define.ensures.ok) c.in_ok-push.ensures.ok

pub returns-clause-ok : goal.returns-clause-ok
returns-clause-ok c = each_spent (has_next mark.Name) define_at (defines_at c.args.cursor.now) (map define_tree c.loop-round.list) c.len-most.result c.loop-round.round c.loop-round.cursor c.loop-round.invariant c.loop-round-test.false
