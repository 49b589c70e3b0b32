use Rattle.xsap_watched.proofs.advised.Goals as goal

pub returns : goal.returns
returns g c = record { answered = c.run.ensures.answered; told = c.run.ensures.words; meant = c.run.ensures.meant; failed = c.run.ensures.failed }
