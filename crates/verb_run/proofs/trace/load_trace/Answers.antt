use Rattle.std.proofs.Common.{Err, IsErrOf, sym, ap, subst, ◌∙◌}
use Rattle.std.proofs.lemmas.Result.{err_from_is_err_and}
use Rattle.smv_language.specs.Language.{model_tree, told_trace}
use Rattle.cut_text_laws.specs.TraceOfText.{BytesGive}
use Rattle.cut_report.specs.Faults.{IsFaultOf}
use Rattle.verb_loading.specs.declared.input.Stop.TheVariants as stop
use Rattle.verb_run.proofs.ReplayLemmas.{refuses_trace_file, refuses_trace_text, holds_trace}
use Rattle.verb_run.proofs.TraceLaws.{fit_trace}
use Rattle.verb_run.proofs.trace.load_trace.Goals as goal
use Rattle.base_values.proofs.ResultLaws.{same_fault}

pub returns-in_err-bytes-clause-refused : goal.returns-in_err-bytes-clause-refused
returns-in_err-bytes-clause-refused g c r e =
    let exit = err_from_is_err_and c.from_residual.result c.from_residual.ensures.1 in
    let refused : IsErrOf c.read_input.result (stop.Refused r) = c.in_err-bytes.was ∙ ap (λ stop. Err stop) (sym exit.2 ∙ same_fault (sym exit.1 ∙ e)) in
    let wrong = c.read_input.ensures.refused r refused in
    refuses_trace_file _ _ _ r wrong.0 wrong.1 wrong.2

pub returns-clause-refused : goal.returns-clause-refused
returns-clause-refused g c r e =
    refuses_trace_text _ _ _ _ c.in_ok-bytes.ensures.bytes c.in-Err.fault r (sym (same_fault e) ∙ c.text_stop.ensures) (subst (λ b. IsFaultOf (model_tree c.args.typed.now.model) b c.in-Err.fault) c.deref.ensures.value c.in-Err.ensures.fault)

pub returns-in-Ok-clause-ok : goal.returns-in-Ok-clause-ok
returns-in-Ok-clause-ok g c = holds_trace _ _ _ _ _ c.in_ok-bytes.ensures.bytes (subst (λ b. BytesGive (model_tree c.args.typed.now.model) b (told_trace c.args.typed.now.model.symbols c.in-Ok.trace)) c.deref.ensures.value c.in-Ok.ensures.trace)

pub returns-in-Ok-clause-fit : goal.returns-in-Ok-clause-fit
returns-in-Ok-clause-fit g c = fit_trace (model_tree c.args.typed.now.model) c.requires.printable c.in_ok-bytes.bytes.items c.in-Ok.trace c.in_ok-bytes.ensures.short (subst (λ b. BytesGive (model_tree c.args.typed.now.model) b (told_trace c.args.typed.now.model.symbols c.in-Ok.trace)) c.deref.ensures.value c.in-Ok.ensures.trace)
