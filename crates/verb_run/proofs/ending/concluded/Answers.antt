use Rattle.std.proofs.Common.{Err, IfOk, ⊎_elim, inl, inr, refl, sym, ap, subst, ◌∙◌}
use Rattle.verb_loading.specs.Statuses.{IsFinished}
use Rattle.verb_run.specs.RunEndings.{Concluded}
use Rattle.verb_run.proofs.ending.concluded.Goals as goal

pub returns-in-Ok-clause-concluded : goal.returns-in-Ok-clause-concluded
returns-in-Ok-clause-concluded g c =
    subst (λ d. Concluded d c.in-Ok.status (g.D.Desk.told c.args.desk.now).files (g.D.Desk.told c.args.desk.now).files (g.D.Desk.told c.args.desk.now).said (g.D.Desk.told c.args.desk.now).said) (sym c.in-Ok.is)
    (record { ends = refl; kept = refl; silent = refl })

pub returns-in-Ok-clause-failed : goal.returns-in-Ok-clause-failed
returns-in-Ok-clause-failed g c desk = absurd (subst IsFinished desk (subst (λ d. IfOk d IsFinished) c.in-Ok.is c.requires))

pub returns-in-Err-clause-concluded : goal.returns-in-Err-clause-concluded
returns-in-Err-clause-concluded g c =
    subst (λ d. Concluded d c.stopped.result (g.D.Desk.told c.args.desk.now).files (g.D.Desk.told c.stopped.new.desk).files (g.D.Desk.told c.args.desk.now).said (g.D.Desk.told c.stopped.new.desk).said) (sym c.in-Err.is)
    c.stopped.ensures.stopped

pub returns-in-Err-clause-failed : goal.returns-in-Err-clause-failed
returns-in-Err-clause-failed g c desk = ⊎_elim (λ is. inl (c.in-Err.is ∙ ap (λ s. Err s) is)) (λ rose. inr rose) (c.stopped.ensures.failed desk)
