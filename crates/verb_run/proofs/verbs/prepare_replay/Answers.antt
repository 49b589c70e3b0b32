use Rattle.std.proofs.Common.{Err, IsErrOf, sym, ap, ◌∙◌}
use Rattle.std.proofs.lemmas.Result.{err_from_is_err_and, IfOk-weaker}
use Rattle.smv_language.specs.Language.{program_tree, flat_tree}
use Rattle.verb_loading.specs.LoadedCases.{case_of}
use Rattle.verb_run.specs.Runs.{refuses, says}
use Rattle.verb_loading.specs.declared.input.Stop.TheVariants as stop
use Rattle.verb_run.proofs.OutcomeLemmas.{replays_no_model, replays_no_faults, replays_no_top, replays_trace}
use Rattle.verb_loading.proofs.LoadedLaws.{holds_case}
use Rattle.base_files.proofs.Stays.{reads_on}
use Rattle.verb_run.proofs.verbs.prepare_replay.Goals as goal
use Rattle.base_values.proofs.ResultLaws.{same_fault}

pub returns-in_err-model-clause-refused : goal.returns-in_err-model-clause-refused
returns-in_err-model-clause-refused g c r e =
    let exit = err_from_is_err_and c.from_residual.result c.from_residual.ensures.1 in
    let refused : IsErrOf c.load_model.result (stop.Refused r) = c.in_err-model.was ∙ ap (λ stop. Err stop) (sym exit.2 ∙ same_fault (sym exit.1 ∙ e)) in
    replays_no_model _ _ _ _ _ r (c.load_model.ensures.refused r refused)

pub returns-in_err-case-clause-refused : goal.returns-in_err-case-clause-refused
returns-in_err-case-clause-refused g c r e =
    let exit = err_from_is_err_and c.from_residual-in_err-case.result c.from_residual-in_err-case.ensures.1 in
    let refused : IsErrOf c.load_case.result (stop.Refused r) = c.in_err-case.was ∙ ap (λ stop. Err stop) (sym exit.2 ∙ same_fault (sym exit.1 ∙ e)) in
    replays_no_faults _ _ _ _ _ _ _ r c.load_model.ensures.stays.files c.in_ok-model.ensures.ok (c.load_case.ensures.refused r refused)

pub returns-in_err-top-clause-refused : goal.returns-in_err-top-clause-refused
returns-in_err-top-clause-refused g c r e =
    let exit = err_from_is_err_and c.from_residual-in_err-top.result c.from_residual-in_err-top.ensures.1 in
    let refused : IsErrOf c.load_top.result (stop.Refused r) = c.in_err-top.was ∙ ap (λ stop. Err stop) (sym exit.2 ∙ same_fault (sym exit.1 ∙ e)) in
    let p = program_tree c.in_ok-model.model.program in
    let holds = holds_case _ _ c.args.asked.now.trace.now c.args.asked.now.top.now _ _ p c.in_ok-case.case c.load_model.ensures.stays.files c.in_ok-model.ensures.ok c.in_ok-case.ensures.ok in
    replays_no_top _ _ _ _ _ (case_of p c.in_ok-case.case) r holds (c.load_top.ensures.refused r refused)

pub returns-in_err-top-clause-failed : goal.returns-in_err-top-clause-failed
returns-in_err-top-clause-failed g c e =
    let exit = err_from_is_err_and c.from_residual-in_err-top.result c.from_residual-in_err-top.ensures.1 in
    let refused : IsErrOf c.load_top.result stop.Desk = c.in_err-top.was ∙ ap (λ stop. Err stop) (sym exit.2 ∙ same_fault (sym exit.1 ∙ e)) in
    absurd (c.load_top.ensures.desk refused)

pub returns-clause-refused : goal.returns-clause-refused
returns-clause-refused g c r e =
    let p = program_tree c.in_ok-model.model.program in
    let holds = holds_case _ _ c.args.asked.now.trace.now c.args.asked.now.top.now _ _ p c.in_ok-case.case c.load_model.ensures.stays.files c.in_ok-model.ensures.ok c.in_ok-case.ensures.ok in
    replays_trace _ _ _ _ _ _ (case_of p c.in_ok-case.case) (flat_tree c.in_ok-top.top) (refuses r) (c.load_case.ensures.stays.files ∙ c.load_model.ensures.stays.files) holds c.in_ok-top.ensures.ok (c.replay_file.ensures.refused r e)

pub returns-clause-ok : goal.returns-clause-ok
returns-clause-ok g c =
    let p = program_tree c.in_ok-model.model.program in
    let holds = holds_case _ _ c.args.asked.now.trace.now c.args.asked.now.top.now _ _ p c.in_ok-case.case c.load_model.ensures.stays.files c.in_ok-model.ensures.ok c.in_ok-case.ensures.ok in
    IfOk-weaker c.replay_file.result _ _
    (λ report comes. replays_trace _ _ _ _ _ _ (case_of p c.in_ok-case.case) (flat_tree c.in_ok-top.top) (says report) (c.load_case.ensures.stays.files ∙ c.load_model.ensures.stays.files) holds c.in_ok-top.ensures.ok comes) c.replay_file.ensures.ok

pub returns-in_err-case-clause-stays : goal.returns-in_err-case-clause-stays
returns-in_err-case-clause-stays g c = reads_on _ _ _ c.load_model.ensures.stays c.load_case.ensures.stays

pub returns-in_err-top-clause-stays : goal.returns-in_err-top-clause-stays
returns-in_err-top-clause-stays g c = reads_on _ _ _ c.load_model.ensures.stays c.load_case.ensures.stays

pub returns-clause-stays : goal.returns-clause-stays
returns-clause-stays g c = reads_on _ _ _ (reads_on _ _ _ c.load_model.ensures.stays c.load_case.ensures.stays) c.replay_file.ensures.stays
