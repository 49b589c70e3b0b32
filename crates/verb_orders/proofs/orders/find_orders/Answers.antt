use Rattle.std.proofs.Common.{Err, inl, inr, sym, ap, subst, ◌∙◌}
use Rattle.std.proofs.lemmas.Result.{err_from_is_err_and}
use Rattle.verb_command_line.specs.Sets.{numbers_of}
use Rattle.verb_loading.specs.Statuses.{IsBoundedAt}
use Rattle.verb_loading.proofs.SaidLaws.{rose_later}
use Rattle.verb_loading.proofs.StopLaws.{write_refused, write_desk}
use Rattle.verb_orders.proofs.OrderLaws.{has_order, orders_in_part}
use Rattle.base_files.proofs.Stays.{reads_later, later_on}
use Rattle.verb_orders.proofs.orders.find_orders.Goals as goal
use Rattle.base_values.proofs.ResultLaws.{same_fault}

pub returns-in_err-found-clause-refused : goal.returns-in_err-found-clause-refused
returns-in_err-found-clause-refused g c r e asked =
    let exit = err_from_is_err_and c.from_residual.result c.from_residual.ensures.1 in
    c.prepare.ensures.refused r (c.in_err-found.was ∙ ap (λ s. Err s) (sym exit.2 ∙ same_fault (sym exit.1 ∙ e))) asked

pub returns-in_err-found-clause-left : goal.returns-in_err-found-clause-left
returns-in_err-found-clause-left g c = inl (c.prepare.ensures.stays.files, c.prepare.ensures.stays.said)

pub returns-in_err-conclude-clause-refused : goal.returns-in_err-conclude-clause-refused
returns-in_err-conclude-clause-refused g c r e asked =
    let exit = err_from_is_err_and c.from_residual-in_err-conclude.result c.from_residual-in_err-conclude.ensures.1 in absurd (write_refused _ r (sym exit.2 ∙ same_fault (sym exit.1 ∙ e)))

pub returns-in_err-conclude-clause-untouched : goal.returns-in_err-conclude-clause-untouched
returns-in_err-conclude-clause-untouched g c r e =
    let exit = err_from_is_err_and c.from_residual-in_err-conclude.result c.from_residual-in_err-conclude.ensures.1 in absurd (write_refused _ r (sym exit.2 ∙ same_fault (sym exit.1 ∙ e)))

pub returns-in_err-conclude-clause-failed : goal.returns-in_err-conclude-clause-failed
returns-in_err-conclude-clause-failed g c e =
    let exit = err_from_is_err_and c.from_residual-in_err-conclude.result c.from_residual-in_err-conclude.ensures.1 in
    let is = write_desk _ (sym exit.2 ∙ same_fault (sym exit.1 ∙ e)) in
    rose_later _ _ _ c.prepare.ensures.stays.later (c.conclude.ensures.failed (c.in_err-conclude.was ∙ ap (λ s. Err s) is))

pub returns-in_err-conclude-clause-left : goal.returns-in_err-conclude-clause-left
returns-in_err-conclude-clause-left g c =
    let a = c.args.asked.now in
    inr
    (λ asked. orders_in_part a.model.now a.faults.now a.top.now (numbers_of a.set.now) a.first a.second a.depth a.cert.now c.in_ok-found.found _ _ _ _ _ _ c.prepare.ensures.stays.files c.prepare.ensures.stays.said _
    (c.in_ok-found.ensures.ok asked) c.conclude.ensures.part)

pub returns-clause-ok : goal.returns-clause-ok
returns-clause-ok g c asked =
    let a = c.args.asked.now in
    has_order a.model.now a.faults.now a.top.now (numbers_of a.set.now) a.first a.second a.depth a.cert.now c.in_ok-found.found _ _ _ _ _ _ c.prepare.ensures.stays.files c.prepare.ensures.stays.said _ c.ended_as.result
    (c.in_ok-found.ensures.ok asked) c.ended_as.ensures.ends c.in_ok-conclude.ensures.ok.0 c.in_ok-conclude.ensures.ok.1

pub returns-clause-depth : goal.returns-clause-depth
returns-clause-depth g c = subst (IsBoundedAt c.args.asked.now.depth) (sym c.ended_as.ensures.ends) c.in_ok-found.ensures.depth

pub returns-clause-left : goal.returns-clause-left
returns-clause-left g c =
    let a = c.args.asked.now in
    inr
    (λ asked. orders_in_part a.model.now a.faults.now a.top.now (numbers_of a.set.now) a.first a.second a.depth a.cert.now c.in_ok-found.found _ _ _ _ _ _ c.prepare.ensures.stays.files c.prepare.ensures.stays.said _
    (c.in_ok-found.ensures.ok asked) c.conclude.ensures.part)

pub returns-clause-stays : goal.returns-clause-stays
returns-clause-stays g c = later_on _ _ _ (reads_later _ _ c.prepare.ensures.stays) c.conclude.ensures.stays
