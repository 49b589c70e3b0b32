use Rattle.std.proofs.Common.{sym, ap, ◌∙◌, map}
use Rattle.std.specs.Prelude.{Err, codes}
use Rattle.std.proofs.lemmas.Result.{err_from_is_err_and}
use Rattle.fault_instructions.specs.Instructions.{slice_tree}
use Rattle.smv_expression_reader.proofs.ReadLaws.{each_viewed, each_end, each_spent, each_deep, each_none}
use Rattle.smv_expression_reader.specs.SecondPass.{has_word}
use Rattle.fault_reader.specs.InstructionParts.{slices_at, slice_at}
use Rattle.fault_reader.proofs.build.slices.Goals as goal
use Rattle.base_values.proofs.ResultLaws.{same_fault}

pub returns-then-not-is_word-clause-ok : goal.returns-then-not-is_word-clause-ok
returns-then-not-is_word-clause-ok c =
    each_end (has_word (codes "SLICE")) slice_at (slices_at c.args.cursor.now) (map slice_tree c.loop-round.list) c.len-most.result c.loop-round.round c.loop-round.cursor c.loop-round.invariant c.loop-round-test.true
    (sym c.is_word.ensures ∙ c.if-not-is_word.true)

pub returns-in_err-slice-clause-deep : goal.returns-in_err-slice-clause-deep
returns-in_err-slice-clause-deep c = λ e.
    let exit = err_from_is_err_and c.from_residual.result c.from_residual.ensures.1 in
    each_deep (has_word (codes "SLICE")) slice_at (slices_at c.args.cursor.now) (map slice_tree c.loop-round.list) c.len-most.result c.loop-round.round c.loop-round.cursor c.loop-round.invariant c.loop-round-test.true
    (sym c.is_word.ensures ∙ c.if-not-is_word.false) (c.slice.ensures.deep (c.in_err-slice.was ∙ ap Err (sym exit.2 ∙ same_fault (sym exit.1 ∙ e))))

pub returns-in_err-slice-clause-none : goal.returns-in_err-slice-clause-none
returns-in_err-slice-clause-none c = λ e.
    let exit = err_from_is_err_and c.from_residual.result c.from_residual.ensures.1 in
    each_none (has_word (codes "SLICE")) slice_at (slices_at c.args.cursor.now) (map slice_tree c.loop-round.list) c.len-most.result c.loop-round.round c.loop-round.cursor c.loop-round.invariant c.loop-round-test.true
    (sym c.is_word.ensures ∙ c.if-not-is_word.false) (c.slice.ensures.none (c.in_err-slice.was ∙ ap Err (sym exit.2 ∙ same_fault (sym exit.1 ∙ e))))

pub loop-round-preserved : goal.loop-round-preserved
loop-round-preserved c =
    each_viewed slice_tree (has_word (codes "SLICE")) slice_at (slices_at c.args.cursor.now) c.loop-round.list c.push.new.self c.len-most.result c.loop-round.round c.loop-round.cursor c.slice.new.cursor c.in_ok-slice.field-0
    c.loop-round.invariant c.loop-round-test.true (sym c.is_word.ensures ∙ c.if-not-is_word.false) (c.in_ok-slice.ensures.ok) c.in_ok-push.ensures.ok

pub returns-clause-ok : goal.returns-clause-ok
returns-clause-ok c = each_spent (has_word (codes "SLICE")) slice_at (slices_at c.args.cursor.now) (map slice_tree c.loop-round.list) c.len-most.result c.loop-round.round c.loop-round.cursor c.loop-round.invariant c.loop-round-test.false
