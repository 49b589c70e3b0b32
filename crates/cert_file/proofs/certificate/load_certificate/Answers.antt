use Rattle.std.proofs.Common.{Err, IsErrOf, refl, sym, ap, subst, ◌∙◌}
use Rattle.std.proofs.lemmas.Result.{err_from_is_err_and}
use Rattle.cert_text.specs.CertificateView.{seen}
use Rattle.cert_laws.specs.CertificateText.{SpellsCertificate, IsBadLine, EndsBefore}
use Rattle.verb_loading.specs.declared.input.Stop.TheVariants as stop
use Rattle.cert_file.specs.CertificateFiles.{text_fault, a_bad_line, a_missing_line}
use Rattle.verb_loading.proofs.InputLemmas.{same_refusal}
use Rattle.cert_file.proofs.CertificateFileLaws.{refuses_certificate_file, refuses_certificate_text, holds_certificate, short_is_checkable}
use Rattle.cert_file.proofs.certificate.load_certificate.Goals as goal
use Rattle.base_values.proofs.ResultLaws.{same_fault}

pub returns-in_err-bytes-clause-refused : goal.returns-in_err-bytes-clause-refused
returns-in_err-bytes-clause-refused g c r e =
    let exit = err_from_is_err_and c.from_residual.result c.from_residual.ensures.1 in
    let refused : IsErrOf c.read_input.result (stop.Refused r) = c.in_err-bytes.was ∙ ap (λ stop. Err stop) (sym exit.2 ∙ same_fault (sym exit.1 ∙ e)) in
    let wrong = c.read_input.ensures.refused r refused in
    refuses_certificate_file _ _ r wrong.0 wrong.1 wrong.2

pub returns-in-Ok-clause-ok : goal.returns-in-Ok-clause-ok
returns-in-Ok-clause-ok g c =
    holds_certificate _ _ c.in_ok-bytes.bytes.items c.in_ok-bytes.ensures.bytes (seen c.in-Ok.certificate) (subst (λ b. SpellsCertificate b (seen c.in-Ok.certificate)) c.deref.ensures.value c.in-Ok.ensures.ok)

pub returns-in-Ok-clause-checkable : goal.returns-in-Ok-clause-checkable
returns-in-Ok-clause-checkable g c =
    short_is_checkable c.spelled_are_checkable.ensures c.in_ok-bytes.bytes.items (seen c.in-Ok.certificate) c.in_ok-bytes.ensures.short (subst (λ b. SpellsCertificate b (seen c.in-Ok.certificate)) c.deref.ensures.value c.in-Ok.ensures.ok)

pub returns-in-Err-BadLine-clause-refused : goal.returns-in-Err-BadLine-clause-refused
returns-in-Err-BadLine-clause-refused g c r e =
    let n = c.in-Err-BadLine.line in
    refuses_certificate_text _ _ c.in_ok-bytes.bytes.items c.in_ok-bytes.ensures.bytes r (text_fault 1 n) (same_refusal (sym c.broken.ensures ∙ same_fault e))
    (a_bad_line n refl (subst (λ b. IsBadLine b n) c.deref.ensures.value (c.read.ensures.bad n (c.in-Err-BadLine.is ∙ ap Err c.in-Err-BadLine.field-0-is))))

pub returns-in-Err-Ends-clause-refused : goal.returns-in-Err-Ends-clause-refused
returns-in-Err-Ends-clause-refused g c r e =
    let n = c.in-Err-Ends.line in
    refuses_certificate_text _ _ c.in_ok-bytes.bytes.items c.in_ok-bytes.ensures.bytes r (text_fault 2 n) (same_refusal (sym c.broken-in-Err-Ends.ensures ∙ same_fault e))
    (a_missing_line n refl (subst (λ b. EndsBefore b n) c.deref.ensures.value (c.read.ensures.ends n (c.in-Err-Ends.is ∙ ap Err c.in-Err-Ends.field-0-is))))
