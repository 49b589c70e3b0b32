use Rattle.std.proofs.Common.{Err, inl, inr, refl, sym, ap, subst, ◌∙◌}
use Rattle.std.specs.Prelude.{codes}
use Rattle.std.proofs.lemmas.Result.{err_from_is_err_and}
use Rattle.base_files.specs.Desk.{SaysPrefix}
use Rattle.verb_command_line.specs.Sets.{numbers_of}
use Rattle.verb_loading.proofs.SaidLaws.{rose_later, says_in_part}
use Rattle.verb_loading.proofs.StopLaws.{write_refused, write_desk}
use Rattle.verb_orders.proofs.ClaimLaws.{check_said}
use Rattle.base_files.proofs.Stays.{reads_says, says_on}
use Rattle.verb_orders.proofs.claims.check_orders.Goals as goal
use Rattle.base_values.proofs.ResultLaws.{same_fault}

pub returns-in_err-prepare-clause-refused : goal.returns-in_err-prepare-clause-refused
returns-in_err-prepare-clause-refused g c r e asked =
    let exit = err_from_is_err_and c.from_residual.result c.from_residual.ensures.1 in
    c.prepare.ensures.refused r (c.in_err-prepare.was ∙ ap (λ s. Err s) (sym exit.2 ∙ same_fault (sym exit.1 ∙ e))) asked

pub returns-in_err-prepare-clause-left : goal.returns-in_err-prepare-clause-left
returns-in_err-prepare-clause-left g c = inl c.prepare.ensures.stays.said

pub returns-in_err-say_whole-clause-refused : goal.returns-in_err-say_whole-clause-refused
returns-in_err-say_whole-clause-refused g c r e asked =
    let exit = err_from_is_err_and c.from_residual-in_err-say_whole.result c.from_residual-in_err-say_whole.ensures.1 in absurd (write_refused _ r (sym exit.2 ∙ same_fault (sym exit.1 ∙ e)))

pub returns-in_err-say_whole-clause-untouched : goal.returns-in_err-say_whole-clause-untouched
returns-in_err-say_whole-clause-untouched g c r e =
    let exit = err_from_is_err_and c.from_residual-in_err-say_whole.result c.from_residual-in_err-say_whole.ensures.1 in absurd (write_refused _ r (sym exit.2 ∙ same_fault (sym exit.1 ∙ e)))

pub returns-in_err-say_whole-clause-failed : goal.returns-in_err-say_whole-clause-failed
returns-in_err-say_whole-clause-failed g c e =
    let exit = err_from_is_err_and c.from_residual-in_err-say_whole.result c.from_residual-in_err-say_whole.ensures.1 in
    let is = write_desk _ (sym exit.2 ∙ same_fault (sym exit.1 ∙ e)) in
    rose_later _ _ _ c.prepare.ensures.stays.later (c.say_whole.ensures.failed (c.in_err-say_whole.was ∙ ap (λ s. Err s) is))

pub returns-in_err-say_whole-clause-left : goal.returns-in_err-say_whole-clause-left
returns-in_err-say_whole-clause-left g c =
    inr (
      subst (λ t. SaysPrefix t (g.D.Desk.told c.say_whole.new.desk).said (codes "accepted\n")) c.prepare.ensures.stays.said
          (says_in_part c.say_whole.result _ _ _ (codes "accepted\n") refl c.say_whole.ensures.ok c.say_whole.ensures.err),
      c.in_ok-prepare.ensures.ok,
    )

pub returns-clause-ok : goal.returns-clause-ok
returns-clause-ok g c asked =
    let a = c.args.asked.now in
    check_said a.model.now a.faults.now a.top.now (numbers_of a.set.now) a.first a.second a.claim.now a.cert.now _ _ _ _ c.prepare.ensures.stays.said (c.in_ok-prepare.ensures.ok asked) c.in_ok-say_whole.ensures.ok

pub returns-clause-left : goal.returns-clause-left
returns-clause-left g c =
    inr (
      subst (λ t. SaysPrefix t (g.D.Desk.told c.say_whole.new.desk).said (codes "accepted\n")) c.prepare.ensures.stays.said
          (says_in_part c.say_whole.result _ _ _ (codes "accepted\n") refl c.say_whole.ensures.ok c.say_whole.ensures.err),
      c.in_ok-prepare.ensures.ok,
    )

pub returns-clause-stays : goal.returns-clause-stays
returns-clause-stays g c = says_on _ _ _ (reads_says _ _ c.prepare.ensures.stays) c.say_whole.ensures.stays
