use Rattle.std.proofs.Common.{Err, inl, sym, ap, ◌∙◌}
use Rattle.std.proofs.lemmas.Result.{err_from_is_err_and}
use Rattle.base_files.specs.Desk.{said_more}
use Rattle.verb_loading.proofs.SaidLaws.{rose_later}
use Rattle.verb_loading.proofs.StopLaws.{write_refused, write_desk}
use Rattle.verb_causes.proofs.CausesLaws.{has_checked, leaves_checked, says_part}
use Rattle.base_files.proofs.Stays.{reads_says, says_on}
use Rattle.verb_causes.proofs.causes.check_causes.Goals as goal
use Rattle.base_values.proofs.ResultLaws.{same_fault}

pub returns-in_err-report-clause-left : goal.returns-in_err-report-clause-left
returns-in_err-report-clause-left g c = inl c.prepare_check.ensures.stays.said

pub returns-in_err-say_whole-clause-refused : goal.returns-in_err-say_whole-clause-refused
returns-in_err-say_whole-clause-refused g c r e =
    let exit = err_from_is_err_and c.from_residual-in_err-say_whole.result c.from_residual-in_err-say_whole.ensures.1 in
    absurd (write_refused _ r (sym exit.2 ∙ same_fault (sym exit.1 ∙ e)))

pub returns-in_err-say_whole-clause-untouched : goal.returns-in_err-say_whole-clause-untouched
returns-in_err-say_whole-clause-untouched g c r e =
    let exit = err_from_is_err_and c.from_residual-in_err-say_whole.result c.from_residual-in_err-say_whole.ensures.1 in
    absurd (write_refused _ r (sym exit.2 ∙ same_fault (sym exit.1 ∙ e)))

pub returns-in_err-say_whole-clause-left : goal.returns-in_err-say_whole-clause-left
returns-in_err-say_whole-clause-left g c =
    leaves_checked _ _ _ _ _ _ c.in_ok-report.report c.in_ok-report.ensures.ok _ _
    (says_part c.say_whole.result _ _ _ _ _ c.prepare_check.ensures.stays.said c.as_slice.ensures c.say_whole.ensures.ok c.say_whole.ensures.err)

pub returns-in_err-say_whole-clause-failed : goal.returns-in_err-say_whole-clause-failed
returns-in_err-say_whole-clause-failed g c e =
    let exit = err_from_is_err_and c.from_residual-in_err-say_whole.result c.from_residual-in_err-say_whole.ensures.1 in
    let is = write_desk _ (sym exit.2 ∙ same_fault (sym exit.1 ∙ e)) in
    rose_later _ _ _ c.prepare_check.ensures.stays.later (c.say_whole.ensures.failed (c.in_err-say_whole.was ∙ ap (λ s. Err s) is))

pub returns-clause-ok : goal.returns-clause-ok
returns-clause-ok g c =
    has_checked _ _ _ _ _ _ c.in_ok-report.report c.in_ok-report.ensures.ok _ _
    (c.in_ok-say_whole.ensures.ok ∙ ap (said_more (g.D.Desk.told c.prepare_check.new.desk).said) c.as_slice.ensures ∙ ap (λ t. said_more t c.in_ok-report.report) c.prepare_check.ensures.stays.said)

pub returns-clause-left : goal.returns-clause-left
returns-clause-left g c =
    leaves_checked _ _ _ _ _ _ c.in_ok-report.report c.in_ok-report.ensures.ok _ _
    (says_part c.say_whole.result _ _ _ _ _ c.prepare_check.ensures.stays.said c.as_slice.ensures c.say_whole.ensures.ok c.say_whole.ensures.err)

pub returns-clause-stays : goal.returns-clause-stays
returns-clause-stays g c = says_on _ _ _ (reads_says _ _ c.prepare_check.ensures.stays) c.say_whole.ensures.stays
