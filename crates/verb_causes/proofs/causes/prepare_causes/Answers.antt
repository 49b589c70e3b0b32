use Rattle.verb_causes.proofs.CausesLaws.{holds_staged, finds_causes, found_within}
use Rattle.verb_causes.proofs.causes.prepare_causes.Goals as goal

pub returns-in-Ok-clause-ok : goal.returns-in-Ok-clause-ok
returns-in-Ok-clause-ok g c =
    let l = c.in_ok-staged.staged in
    let holds = holds_staged _ _ _ _ _ l c.in_ok-staged.ensures.case c.in_ok-staged.ensures.causes c.in_ok-staged.ensures.asked c.in_ok-staged.ensures.staged in
    finds_causes _ _ _ _ _ c.args.asked.now.depth l c.in-Ok.found holds c.in-Ok.ensures

pub returns-in-Ok-clause-depth : goal.returns-in-Ok-clause-depth
returns-in-Ok-clause-depth g c = found_within c.in_ok-staged.staged c.args.asked.now.depth c.in-Ok.found c.in-Ok.ensures
