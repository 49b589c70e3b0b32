use Rattle.std.proofs.Common.{sym, ap, ◌∙◌, map}
use Rattle.std.specs.Prelude.{Err, codes}
use Rattle.std.proofs.lemmas.Result.{err_from_is_err_and}
use Rattle.fault_instructions.specs.Instructions.{mode_tree}
use Rattle.smv_expression_reader.proofs.ReadLaws.{each_viewed, each_end, each_spent, each_deep, each_none}
use Rattle.smv_expression_reader.specs.SecondPass.{has_word}
use Rattle.fault_reader.specs.InstructionParts.{modes_at, mode_at}
use Rattle.fault_reader.proofs.build.modes.Goals as goal
use Rattle.base_values.proofs.ResultLaws.{same_fault}

pub returns-then-not-is_word-clause-ok : goal.returns-then-not-is_word-clause-ok
returns-then-not-is_word-clause-ok c =
    each_end (has_word (codes "MODE")) mode_at (modes_at c.args.cursor.now) (map mode_tree c.loop-round.list) c.len-most.result c.loop-round.round c.loop-round.cursor c.loop-round.invariant c.loop-round-test.true
    (sym c.is_word.ensures ∙ c.if-not-is_word.true)

pub returns-in_err-mode-2-clause-deep : goal.returns-in_err-mode-2-clause-deep
returns-in_err-mode-2-clause-deep c = λ e.
    let exit = err_from_is_err_and c.from_residual-in_err-mode-2.result c.from_residual-in_err-mode-2.ensures.1 in
    each_deep (has_word (codes "MODE")) mode_at (modes_at c.args.cursor.now) (map mode_tree c.loop-round.list) c.len-most.result c.loop-round.round c.loop-round.cursor c.loop-round.invariant c.loop-round-test.true
    (sym c.is_word.ensures ∙ c.if-not-is_word.false) (c.mode-in-loop-round.ensures.deep (c.in_err-mode-2.was ∙ ap Err (sym exit.2 ∙ same_fault (sym exit.1 ∙ e))))

pub returns-in_err-mode-2-clause-none : goal.returns-in_err-mode-2-clause-none
returns-in_err-mode-2-clause-none c = λ e.
    let exit = err_from_is_err_and c.from_residual-in_err-mode-2.result c.from_residual-in_err-mode-2.ensures.1 in
    each_none (has_word (codes "MODE")) mode_at (modes_at c.args.cursor.now) (map mode_tree c.loop-round.list) c.len-most.result c.loop-round.round c.loop-round.cursor c.loop-round.invariant c.loop-round-test.true
    (sym c.is_word.ensures ∙ c.if-not-is_word.false) (c.mode-in-loop-round.ensures.none (c.in_err-mode-2.was ∙ ap Err (sym exit.2 ∙ same_fault (sym exit.1 ∙ e))))

pub loop-round-preserved : goal.loop-round-preserved
loop-round-preserved c =
    each_viewed mode_tree (has_word (codes "MODE")) mode_at (modes_at c.args.cursor.now) c.loop-round.list c.push-in-loop-round.new.self c.len-most.result c.loop-round.round c.loop-round.cursor c.mode-in-loop-round.new.cursor c.in_ok-mode-2.field-0
    c.loop-round.invariant c.loop-round-test.true (sym c.is_word.ensures ∙ c.if-not-is_word.false) (c.in_ok-mode-2.ensures.ok) c.in_ok-push-2.ensures.ok

pub returns-clause-ok : goal.returns-clause-ok
returns-clause-ok c = each_spent (has_word (codes "MODE")) mode_at (modes_at c.args.cursor.now) (map mode_tree c.loop-round.list) c.len-most.result c.loop-round.round c.loop-round.cursor c.loop-round.invariant c.loop-round-test.false
