use Rattle.std.proofs.Common.{Err, IsErrOf, ◌++◌, sym, ap, ◌∙◌}
use Rattle.std.specs.Prelude.{codes}
use Rattle.std.proofs.lemmas.List.{length-map}
use Rattle.std.proofs.lemmas.Result.{err_from_is_err_and}
use Rattle.smv_flat_laws.specs.FaultModes.{mode_of}
use Rattle.cut_text_laws.specs.AnalysisText.{size_line}
use Rattle.cert_text.specs.CertificateView.{seen}
use Rattle.verb_loading.specs.declared.input.Stop.TheVariants as stop
use Rattle.verb_causes.proofs.CausesLaws.{no_file, line_refused, accepts_staged}
use Rattle.verb_causes.proofs.causes.judge_file.Goals as goal
use Rattle.base_values.proofs.ResultLaws.{same_fault}

pub returns-in_err-certificate-clause-refused : goal.returns-in_err-certificate-clause-refused
returns-in_err-certificate-clause-refused g c r e =
    let exit = err_from_is_err_and c.from_residual.result c.from_residual.ensures.1 in
    let is = sym exit.2 ∙ same_fault (sym exit.1 ∙ e) in
    no_file c.args.staged.now _ _ r (c.load_certificate.ensures.refused r (c.in_err-certificate.was ∙ ap (λ s. Err s) is))

pub returns-in_err-certificate-clause-failed : goal.returns-in_err-certificate-clause-failed
returns-in_err-certificate-clause-failed g c e =
    let exit = err_from_is_err_and c.from_residual.result c.from_residual.ensures.1 in
    let is = sym exit.2 ∙ same_fault (sym exit.1 ∙ e) in
    c.load_certificate.ensures.failed (c.in_err-certificate.was ∙ ap (λ s. Err s) is)

pub returns-in_err-judge-clause-refused : goal.returns-in_err-judge-clause-refused
returns-in_err-judge-clause-refused g c r e =
    let exit = err_from_is_err_and c.from_residual-in_err-judge.result c.from_residual-in_err-judge.ensures.1 in
    let refused : IsErrOf c.judge.result (stop.Refused r) = c.in_err-judge.was ∙ ap (λ s. Err s) (sym exit.2 ∙ same_fault (sym exit.1 ∙ e)) in
    line_refused c.args.staged.now _ _ (seen c.in_ok-certificate.certificate) c.in_ok-certificate.ensures.ok r (c.judge.ensures.refused r refused)

pub returns-in_err-judge-clause-failed : goal.returns-in_err-judge-clause-failed
returns-in_err-judge-clause-failed g c e =
    let exit = err_from_is_err_and c.from_residual-in_err-judge.result c.from_residual-in_err-judge.ensures.1 in
    let refused : IsErrOf c.judge.result stop.Desk = c.in_err-judge.was ∙ ap (λ s. Err s) (sym exit.2 ∙ same_fault (sym exit.1 ∙ e)) in
    absurd (c.judge.ensures.desk refused)

pub returns-clause-ok : goal.returns-clause-ok
returns-clause-ok g c =
    let l = c.args.staged.now in
    let a = c.in_ok-certificate.certificate in
    accepts_staged l _ _ (seen a) c.in_ok-certificate.ensures.ok c.in_ok-report.report c.in_ok-judge.ensures.ok
    (c.in_ok-report.ensures ∙ ap (λ n. codes "accepted\n" ++ size_line a.size n) (c.len.ensures ∙ sym (length-map l.events mode_of)))
