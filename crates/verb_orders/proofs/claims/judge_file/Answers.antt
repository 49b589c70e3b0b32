use Rattle.std.proofs.Common.{Err, sym, ap, subst, ◌∙◌, OnOk}
use Rattle.std.proofs.lemmas.Result.{err_from_is_err_and}
use Rattle.cert_text.specs.CertificateView.{seen}
use Rattle.verb_orders.specs.Orders.{IsAcceptedClaim, RefusesClaim, claim_in}
use Rattle.verb_orders.specs.ClaimSearch.{staged_in, against_in}
use Rattle.verb_orders.proofs.ClaimLaws.{file_unread, file_unfit, file_accepted}
use Rattle.verb_orders.proofs.claims.judge_file.Goals as goal
use Rattle.base_values.proofs.ResultLaws.{same_fault}

pub judge-requires-clause-staged : goal.judge-requires-clause-staged
judge-requires-clause-staged g c = c.requires

pub judge-requires-clause-checkable : goal.judge-requires-clause-checkable
judge-requires-clause-checkable g c = c.in_ok-certificate.ensures.checkable

pub returns-in_err-certificate-clause-refused : goal.returns-in_err-certificate-clause-refused
returns-in_err-certificate-clause-refused g c r e =
    let exit = err_from_is_err_and c.from_residual.result c.from_residual.ensures.1 in
    let is = sym exit.2 ∙ same_fault (sym exit.1 ∙ e) in
    let s = c.args.staged.now in
    file_unread c.args.cert.now (staged_in s) (against_in s (claim_in c.args.claim.now)) _ r (c.load_certificate.ensures.refused r (c.in_err-certificate.was ∙ ap (λ s. Err s) is))

pub returns-in_err-certificate-clause-failed : goal.returns-in_err-certificate-clause-failed
returns-in_err-certificate-clause-failed g c e =
    let exit = err_from_is_err_and c.from_residual.result c.from_residual.ensures.1 in
    let is = sym exit.2 ∙ same_fault (sym exit.1 ∙ e) in
    c.load_certificate.ensures.failed (c.in_err-certificate.was ∙ ap (λ s. Err s) is)

pub returns-clause-ok : goal.returns-clause-ok
returns-clause-ok g c =
    let s = c.args.staged.now in
    let a = seen c.in_ok-certificate.certificate in
    file_accepted c.args.cert.now (staged_in s) (against_in s (claim_in c.args.claim.now)) _ a c.judge.result c.in_ok-certificate.ensures.ok
    (subst (λ claim. OnOk c.judge.result (IsAcceptedClaim (staged_in s) (against_in s claim) a)) c.claim_of.ensures c.judge.ensures.ok)

pub returns-clause-refused : goal.returns-clause-refused
returns-clause-refused g c r e =
    let s = c.args.staged.now in
    let a = seen c.in_ok-certificate.certificate in
    file_unfit c.args.cert.now (staged_in s) (against_in s (claim_in c.args.claim.now)) _ a r c.in_ok-certificate.ensures.ok
    (subst (λ claim. RefusesClaim (staged_in s) (against_in s claim) a r) c.claim_of.ensures (c.judge.ensures.refused r e))

pub returns-clause-failed : goal.returns-clause-failed
returns-clause-failed g c e = absurd (c.judge.ensures.desk e)
