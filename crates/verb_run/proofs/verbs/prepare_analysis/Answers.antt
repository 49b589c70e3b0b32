use Rattle.std.proofs.Common.{Err, IsErrOf, sym, ap, ◌∙◌}
use Rattle.std.proofs.lemmas.Result.{err_from_is_err_and}
use Rattle.verb_loading.specs.declared.input.Stop.TheVariants as stop
use Rattle.verb_run.proofs.AnalysisLemmas.{no_analysis, an_analysis}
use Rattle.verb_run.proofs.verbs.prepare_analysis.Goals as goal
use Rattle.base_values.proofs.ResultLaws.{same_fault}

pub returns-in_err-loaded-clause-refused : goal.returns-in_err-loaded-clause-refused
returns-in_err-loaded-clause-refused g c r e =
    let exit = err_from_is_err_and c.from_residual.result c.from_residual.ensures.1 in
    let refused : IsErrOf c.load_event.result (stop.Refused r) = c.in_err-loaded.was ∙ ap (λ stop. Err stop) (sym exit.2 ∙ same_fault (sym exit.1 ∙ e)) in
    no_analysis _ _ _ _ _ _ _ _ r (c.load_event.ensures.refused r refused)

pub returns-clause-ok : goal.returns-clause-ok
returns-clause-ok g c = an_analysis _ _ _ _ _ _ _ _ c.in_ok-loaded.loaded c.in_ok-loaded.ensures.ok c.in_ok-loaded.ensures.event
