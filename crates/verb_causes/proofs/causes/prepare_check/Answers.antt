use Rattle.std.proofs.Common.{Err, IsErrOf, sym, ap, ◌∙◌}
use Rattle.std.proofs.lemmas.Result.{err_from_is_err_and, IfOk-weaker}
use Rattle.verb_loading.specs.declared.input.Stop.TheVariants as stop
use Rattle.verb_causes.proofs.CausesLaws.{holds_staged, check_no_staged, check_no_certificate, accepts_causes}
use Rattle.verb_causes.proofs.causes.prepare_check.Goals as goal
use Rattle.base_values.proofs.ResultLaws.{same_fault}

pub returns-in_err-staged-clause-refused : goal.returns-in_err-staged-clause-refused
returns-in_err-staged-clause-refused g c r e =
    let exit = err_from_is_err_and c.from_residual.result c.from_residual.ensures.1 in
    let refused : IsErrOf c.load_staged.result (stop.Refused r) = c.in_err-staged.was ∙ ap (λ s. Err s) (sym exit.2 ∙ same_fault (sym exit.1 ∙ e)) in
    check_no_staged _ _ _ _ _ _ r (c.load_staged.ensures.refused r refused)

pub returns-clause-refused : goal.returns-clause-refused
returns-clause-refused g c r e =
    let l = c.in_ok-staged.staged in
    let holds = holds_staged _ _ _ _ _ l c.in_ok-staged.ensures.case c.in_ok-staged.ensures.causes c.in_ok-staged.ensures.asked c.in_ok-staged.ensures.staged in
    check_no_certificate _ _ _ _ _ _ _ l c.load_staged.ensures.stays.files holds r (c.judge_file-report.ensures.refused r e)

pub returns-clause-ok : goal.returns-clause-ok
returns-clause-ok g c =
    let l = c.in_ok-staged.staged in
    let holds = holds_staged _ _ _ _ _ l c.in_ok-staged.ensures.case c.in_ok-staged.ensures.causes c.in_ok-staged.ensures.asked c.in_ok-staged.ensures.staged in
    IfOk-weaker c.judge_file-report.result _ _ (λ report accepts. accepts_causes _ _ _ _ _ _ _ l c.load_staged.ensures.stays.files holds report accepts) c.judge_file-report.ensures.ok
