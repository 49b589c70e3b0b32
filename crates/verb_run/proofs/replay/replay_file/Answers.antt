use Rattle.std.proofs.Common.{Err, IsErrOf, sym, ap, ◌∙◌}
use Rattle.std.proofs.lemmas.Result.{err_from_is_err_and}
use Rattle.smv_language.specs.Language.{program_tree, flat_tree}
use Rattle.verb_loading.specs.declared.input.Stop.TheVariants as stop
use Rattle.verb_loading.proofs.LoadedLaws.{loaded_printable, loaded_symbols, loaded_evaluable}
use Rattle.verb_run.proofs.ReplayLemmas.{trace_refused, moment_refused, trace_reaches}
use Rattle.verb_run.proofs.replay.replay_file.Goals as goal
use Rattle.base_values.proofs.ResultLaws.{same_fault}

pub load_trace-requires-clause-printable : goal.load_trace-requires-clause-printable
load_trace-requires-clause-printable g c = loaded_printable (program_tree c.args.model.now.program) c.args.case.now c.requires.loaded

pub load_trace-requires-clause-symbols : goal.load_trace-requires-clause-symbols
load_trace-requires-clause-symbols g c = loaded_symbols (program_tree c.args.model.now.program) c.args.case.now c.requires.loaded

pub judge_trace-requires-clause-model : goal.judge_trace-requires-clause-model
judge_trace-requires-clause-model g c = loaded_evaluable (program_tree c.args.model.now.program) c.args.case.now c.requires.loaded

pub replay_report-requires-clause-model : goal.replay_report-requires-clause-model
replay_report-requires-clause-model g c = loaded_evaluable (program_tree c.args.model.now.program) c.args.case.now c.requires.loaded

pub replay_report-requires-clause-numbered : goal.replay_report-requires-clause-numbered
replay_report-requires-clause-numbered g c = c.requires.loaded.numbered

pub returns-in_err-trace-clause-refused : goal.returns-in_err-trace-clause-refused
returns-in_err-trace-clause-refused g c r e =
    let exit = err_from_is_err_and c.from_residual.result c.from_residual.ensures.1 in
    let refused : IsErrOf c.load_trace.result (stop.Refused r) = c.in_err-trace.was ∙ ap (λ stop. Err stop) (sym exit.2 ∙ same_fault (sym exit.1 ∙ e)) in
    trace_refused _ (program_tree c.args.model.now.program) c.args.case.now (flat_tree c.args.top.now) _ r (c.load_trace.ensures.refused r refused)

pub returns-in_err-judge_trace-clause-refused : goal.returns-in_err-judge_trace-clause-refused
returns-in_err-judge_trace-clause-refused g c r e =
    let exit = err_from_is_err_and c.from_residual-in_err-judge_trace.result c.from_residual-in_err-judge_trace.ensures.1 in
    let refused : IsErrOf c.judge_trace.result (stop.Refused r) = c.in_err-judge_trace.was ∙ ap (λ stop. Err stop) (sym exit.2 ∙ same_fault (sym exit.1 ∙ e)) in
    moment_refused _ (program_tree c.args.model.now.program) c.args.case.now (flat_tree c.args.top.now) _ c.in_ok-trace.trace c.in_ok-trace.ensures.ok r (c.judge_trace.ensures.refused r refused)

pub returns-in_err-judge_trace-clause-failed : goal.returns-in_err-judge_trace-clause-failed
returns-in_err-judge_trace-clause-failed g c e =
    let exit = err_from_is_err_and c.from_residual-in_err-judge_trace.result c.from_residual-in_err-judge_trace.ensures.1 in
    let refused : IsErrOf c.judge_trace.result stop.Desk = c.in_err-judge_trace.was ∙ ap (λ stop. Err stop) (sym exit.2 ∙ same_fault (sym exit.1 ∙ e)) in
    absurd (c.judge_trace.ensures.desk refused)

pub returns-clause-ok : goal.returns-clause-ok
returns-clause-ok g c =
    trace_reaches _ (program_tree c.args.model.now.program) c.args.case.now (flat_tree c.args.top.now) _ c.in_ok-trace.trace c.in_ok-trace.ensures.ok _ c.requires.loaded.numbered c.in_ok-judge_trace.ensures.ok c.in_ok-replay_report.ensures
