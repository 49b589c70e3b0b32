use Rattle.xsap_tops.proofs.advised.Goals as goal

pub returns : goal.returns
returns g c = record { answered = c.run_each.ensures.answered; failed = c.run_each.ensures.failed }
