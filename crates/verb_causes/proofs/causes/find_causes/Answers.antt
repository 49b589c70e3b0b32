use Rattle.std.proofs.Common.{Err, inl, sym, ap, subst, ◌∙◌}
use Rattle.std.proofs.lemmas.Result.{err_from_is_err_and}
use Rattle.base_files.specs.Desk.{said_more}
use Rattle.verb_loading.specs.CaseAnswers.{told_maybe}
use Rattle.verb_loading.specs.Statuses.{IsBoundedAt}
use Rattle.verb_loading.proofs.SaidLaws.{rose_later}
use Rattle.verb_loading.proofs.StopLaws.{write_refused, write_desk}
use Rattle.verb_causes.proofs.CausesLaws.{has_found, leaves_found}
use Rattle.base_files.proofs.Stays.{reads_later, later_on}
use Rattle.verb_causes.proofs.causes.find_causes.Goals as goal
use Rattle.base_values.proofs.ResultLaws.{same_fault}

pub returns-in_err-found-clause-left : goal.returns-in_err-found-clause-left
returns-in_err-found-clause-left g c = inl (c.prepare_causes.ensures.stays.files, c.prepare_causes.ensures.stays.said)

pub returns-in_err-conclude-clause-refused : goal.returns-in_err-conclude-clause-refused
returns-in_err-conclude-clause-refused g c r e =
    let exit = err_from_is_err_and c.from_residual-in_err-conclude.result c.from_residual-in_err-conclude.ensures.1 in
    absurd (write_refused _ r (sym exit.2 ∙ same_fault (sym exit.1 ∙ e)))

pub returns-in_err-conclude-clause-untouched : goal.returns-in_err-conclude-clause-untouched
returns-in_err-conclude-clause-untouched g c r e =
    let exit = err_from_is_err_and c.from_residual-in_err-conclude.result c.from_residual-in_err-conclude.ensures.1 in
    absurd (write_refused _ r (sym exit.2 ∙ same_fault (sym exit.1 ∙ e)))

pub returns-in_err-conclude-clause-left : goal.returns-in_err-conclude-clause-left
returns-in_err-conclude-clause-left g c =
    leaves_found _ _ _ _ c.args.asked.now.cert.now c.args.asked.now.depth _ c.in_ok-found.found c.in_ok-found.ensures.ok _ _ _ _ _ c.prepare_causes.ensures.stays.files c.prepare_causes.ensures.stays.said c.conclude.ensures.part

pub returns-in_err-conclude-clause-failed : goal.returns-in_err-conclude-clause-failed
returns-in_err-conclude-clause-failed g c e =
    let exit = err_from_is_err_and c.from_residual-in_err-conclude.result c.from_residual-in_err-conclude.ensures.1 in
    let is = write_desk _ (sym exit.2 ∙ same_fault (sym exit.1 ∙ e)) in
    rose_later _ _ _ c.prepare_causes.ensures.stays.later (c.conclude.ensures.failed (c.in_err-conclude.was ∙ ap (λ s. Err s) is))

pub returns-clause-ok : goal.returns-clause-ok
returns-clause-ok g c =
    has_found _ _ _ _ c.args.asked.now.cert.now c.args.asked.now.depth _ c.in_ok-found.found c.in_ok-found.ensures.ok c.ended_as.result _ _ _ _ c.ended_as.ensures.ends
    (c.in_ok-conclude.ensures.ok.0 ∙ ap (λ t. told_maybe t c.args.asked.now.cert.now c.in_ok-found.found.cert) c.prepare_causes.ensures.stays.files)
    (c.in_ok-conclude.ensures.ok.1 ∙ ap (λ t. said_more t c.in_ok-found.found.report) c.prepare_causes.ensures.stays.said)

pub returns-clause-ends : goal.returns-clause-ends
returns-clause-ends g c = record {
  finished = c.ended_as.ensures.finished;
  bounded = subst (IsBoundedAt c.args.asked.now.depth) (sym c.ended_as.ensures.ends) c.in_ok-found.ensures.depth;
}

pub returns-clause-left : goal.returns-clause-left
returns-clause-left g c =
    leaves_found _ _ _ _ c.args.asked.now.cert.now c.args.asked.now.depth _ c.in_ok-found.found c.in_ok-found.ensures.ok _ _ _ _ _ c.prepare_causes.ensures.stays.files c.prepare_causes.ensures.stays.said c.conclude.ensures.part

pub returns-clause-stays : goal.returns-clause-stays
returns-clause-stays g c = later_on _ _ _ (reads_later _ _ c.prepare_causes.ensures.stays) c.conclude.ensures.stays
