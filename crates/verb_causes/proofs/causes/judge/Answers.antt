use Rattle.std.proofs.Common.{rules, ◌<◌, ◌^◌, length, sym, subst, ◌∙◌}
use Rattle.cert_text.specs.CertificateView.{seen}
use Rattle.cert_check.specs.Matter.{matter_of}
use Rattle.cert_check.specs.SiteFindings.{IsJudged}
use Rattle.verb_causes.proofs.StagedLaws.{event_fits, event_certifies, event_not_accepted}
use Rattle.verb_causes.proofs.CausesLaws.{one_refusal}
use Rattle.verb_causes.proofs.causes.judge.Goals as goal
use Rattle.base_values.proofs.ResultLaws.{same_fault}

pub check-requires-clause-fit : goal.check-requires-clause-fit
check-requires-clause-fit c =
    let few : length c.args.staged.now.typed.model.symbols < 2 ^ 31 = search rules in
    event_fits c.args.staged.now c.requires.event few

pub returns-in-Yes-clause-ok : goal.returns-in-Yes-clause-ok
returns-in-Yes-clause-ok c =
    let l = c.args.staged.now in
    let few : length l.typed.model.symbols < 2 ^ 31 = search rules in
    event_certifies l c.requires.event few (seen c.args.certificate.now) c.requires.checkable
    (subst (λ j. IsJudged (matter_of l.full.model l.typed.model l.events l.loaded.top (seen c.args.certificate.now)) j) c.in-Yes.is c.in_ok-judged.ensures)

pub returns-in-No-clause-refused : goal.returns-in-No-clause-refused
returns-in-No-clause-refused c r e =
    let l = c.args.staged.now in
    event_not_accepted l c.requires.event (seen c.args.certificate.now) c.in-No.line c.in-No.rule r (one_refusal (sym (same_fault e) ∙ c.line_stop.ensures))
    (subst (λ j. IsJudged (matter_of l.full.model l.typed.model l.events l.loaded.top (seen c.args.certificate.now)) j) c.in-No.is c.in_ok-judged.ensures)
