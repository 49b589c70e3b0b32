use Rattle.std.proofs.Common.{rules, ◌<◌, ◌^◌, length, sym, subst, ◌∙◌}
use Rattle.cert_text.specs.CertificateView.{seen}
use Rattle.cert_check.specs.Matter.{matter_of}
use Rattle.cert_check.specs.SiteFindings.{IsJudged}
use Rattle.verb_loading.proofs.InputLemmas.{same_refusal}
use Rattle.verb_run.proofs.CertificateLaws.{event_fits, event_accepted, event_not_accepted}
use Rattle.verb_run.proofs.certificate.judge_certificate.Goals as goal
use Rattle.base_values.proofs.ResultLaws.{same_fault}

pub check-requires-clause-fit : goal.check-requires-clause-fit
check-requires-clause-fit c =
    let few : length c.args.loaded.now.case.limited.typed.model.symbols < 2 ^ 31 = search rules in
    event_fits c.args.loaded.now c.requires.event few

pub returns-in-Yes-clause-ok : goal.returns-in-Yes-clause-ok
returns-in-Yes-clause-ok c =
    let l = c.args.loaded.now in
    let few : length l.case.limited.typed.model.symbols < 2 ^ 31 = search rules in
    event_accepted l c.requires.event (seen c.args.certificate.now) few c.requires.checkable
    (subst (λ j. IsJudged (matter_of l.case.limited.full.model l.case.limited.typed.model l.case.limited.faults l.top (seen c.args.certificate.now)) j) c.in-Yes.is c.in_ok-judged.ensures)

pub returns-in-No-clause-refused : goal.returns-in-No-clause-refused
returns-in-No-clause-refused c r e =
    let l = c.args.loaded.now in
    event_not_accepted l c.requires.event (seen c.args.certificate.now) c.in-No.line c.in-No.rule r (same_refusal (sym c.line_stop.ensures ∙ same_fault e))
    (subst (λ j. IsJudged (matter_of l.case.limited.full.model l.case.limited.typed.model l.case.limited.faults l.top (seen c.args.certificate.now)) j) c.in-No.is c.in_ok-judged.ensures)
