use Rattle.std.proofs.Common.{Err, IsErrOf, sym, ap, ◌∙◌}
use Rattle.std.proofs.lemmas.Result.{err_from_is_err_and, IfOk-weaker}
use Rattle.verb_loading.specs.declared.input.Stop.TheVariants as stop
use Rattle.verb_run.proofs.CheckedLaws.{check_has_no_event, check_refused, check_says}
use Rattle.base_files.proofs.Stays.{reads_on}
use Rattle.verb_run.proofs.verbs.prepare_check.Goals as goal
use Rattle.base_values.proofs.ResultLaws.{same_fault}

pub returns-in_err-loaded-clause-refused : goal.returns-in_err-loaded-clause-refused
returns-in_err-loaded-clause-refused g c r e =
    let exit = err_from_is_err_and c.from_residual.result c.from_residual.ensures.1 in
    let refused : IsErrOf c.load_event.result (stop.Refused r) = c.in_err-loaded.was ∙ ap (λ stop. Err stop) (sym exit.2 ∙ same_fault (sym exit.1 ∙ e)) in
    check_has_no_event _ _ _ _ _ r (c.load_event.ensures.refused r refused)

pub check_file-requires : goal.check_file-requires
check_file-requires g c = record { word = c.args.asked.now.top.now; is_event = c.in_ok-loaded.ensures.event }

pub returns-clause-refused : goal.returns-clause-refused
returns-clause-refused g c r e = check_refused _ _ _ _ _ _ c.in_ok-loaded.loaded r c.load_event.ensures.stays.files c.in_ok-loaded.ensures.ok c.in_ok-loaded.ensures.event (c.check_file.ensures.refused r e)

pub returns-clause-ok : goal.returns-clause-ok
returns-clause-ok g c =
    IfOk-weaker c.check_file.result _ _
    (λ report said. check_says _ _ _ _ _ _ c.in_ok-loaded.loaded report c.load_event.ensures.stays.files c.in_ok-loaded.ensures.ok c.in_ok-loaded.ensures.event said) c.check_file.ensures.ok

pub returns-clause-stays : goal.returns-clause-stays
returns-clause-stays g c = reads_on _ _ _ c.load_event.ensures.stays c.check_file.ensures.stays
