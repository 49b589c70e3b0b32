use Rattle.std.proofs.Common.{Err, IsErrOf, ◌++◌, sym, ap, ◌∙◌}
use Rattle.std.specs.Prelude.{codes}
use Rattle.std.proofs.lemmas.Result.{err_from_is_err_and}
use Rattle.smv_language.specs.Language.{program_tree, flat_tree}
use Rattle.cert_text.specs.CertificateView.{seen}
use Rattle.cut_text_laws.specs.AnalysisText.{size_line}
use Rattle.verb_loading.specs.LoadedEvents.{case_in}
use Rattle.verb_loading.specs.declared.input.Stop.TheVariants as stop
use Rattle.cut_model_search.proofs.Analysable.{case_counts}
use Rattle.verb_run.proofs.CertificateLaws.{file_refused, line_refused, file_accepted}
use Rattle.verb_run.proofs.certificate.check_file.Goals as goal
use Rattle.base_values.proofs.ResultLaws.{same_fault}

pub returns-in_err-certificate-clause-refused : goal.returns-in_err-certificate-clause-refused
returns-in_err-certificate-clause-refused g c r e =
    let exit = err_from_is_err_and c.from_residual.result c.from_residual.ensures.1 in
    let refused : IsErrOf c.load_certificate.result (stop.Refused r) = c.in_err-certificate.was ∙ ap (λ stop. Err stop) (sym exit.2 ∙ same_fault (sym exit.1 ∙ e)) in
    file_refused _ (case_in c.args.loaded.now) (flat_tree c.args.loaded.now.top) _ r (c.load_certificate.ensures.refused r refused)

pub returns-in_err-judge_certificate-clause-refused : goal.returns-in_err-judge_certificate-clause-refused
returns-in_err-judge_certificate-clause-refused g c r e =
    let exit = err_from_is_err_and c.from_residual-in_err-judge_certificate.result c.from_residual-in_err-judge_certificate.ensures.1 in
    let refused : IsErrOf c.judge_certificate.result (stop.Refused r) = c.in_err-judge_certificate.was ∙ ap (λ stop. Err stop) (sym exit.2 ∙ same_fault (sym exit.1 ∙ e)) in
    line_refused _ (case_in c.args.loaded.now) (flat_tree c.args.loaded.now.top) _ (seen c.in_ok-certificate.certificate) c.in_ok-certificate.ensures.ok r (c.judge_certificate.ensures.refused r refused)

pub returns-clause-ok : goal.returns-clause-ok
returns-clause-ok g c =
    let l = c.args.loaded.now in
    let a = c.in_ok-certificate.certificate in
    let counts = case_counts (program_tree l.model.program) l.case c.requires.word (flat_tree l.top) c.requires.is_event in
    file_accepted _ (case_in l) (flat_tree l.top) _ (seen a) c.in_ok-certificate.ensures.ok c.in_ok-accepted_report.field-0 c.in_ok-judge_certificate.ensures.ok
    (c.in_ok-accepted_report.ensures ∙ ap (λ n. codes "accepted\n" ++ size_line a.size n) (c.len.ensures ∙ sym counts))
