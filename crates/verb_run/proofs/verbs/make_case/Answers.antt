use Rattle.std.proofs.Common.{Some, inl, inr, refl, sym, ap}
use Rattle.verb_command_line.specs.declared.command.Command.TheVariants as ask
use Rattle.verb_command_line.specs.CommandView.{seen}
use Rattle.verb_run.specs.GeneratedCase.{made_case}
use Rattle.verb_run.specs.Runs.{makes, MakeComesTo, CommandComesTo, IsDelivered}
use Rattle.verb_run.proofs.OutcomeLemmas.{answers_prepared, stops_at_prepared, finished_answers, failed_finish, not_desk, for_files}
use Rattle.verb_run.proofs.StatusLaws.{finished_of, analysed_of}
use Rattle.std.proofs.lemmas.Result.{IfOk-weaker}
use Rattle.verb_run.proofs.verbs.make_case.Goals as goal

pub returns-in-Ok-clause-answered : goal.returns-in-Ok-clause-answered
returns-in-Ok-clause-answered g c answer =
    let a = c.in-Ok.making in
    answers_prepared (λ files o. CommandComesTo files (seen (ask.Make c.args.asked.now)) o) _ _ _ _ _ _ refl refl
    (makes (made_case a) a.stages a.depth a.model.now a.faults.now) c.finished.result (for_files (MakeComesTo c.args.asked.now.number c.args.asked.now.stages c.args.asked.now.depth c.args.asked.now.model.now c.args.asked.now.faults.now (makes (made_case a) a.stages a.depth a.model.now a.faults.now)) (g.D.Desk.told c.args.desk.now).files c.in-Ok.ensures.ok)
    (finished_answers
    (λ s. IsDelivered (makes (made_case a) a.stages a.depth a.model.now a.faults.now) s (g.D.Desk.told c.args.desk.now).files (g.D.Desk.told c.deliver_made.new.desk).files (g.D.Desk.told c.args.desk.now).said (g.D.Desk.told c.deliver_made.new.desk).said)
    c.deliver_made.result c.finished.result c.finished.ensures c.deliver_made.ensures.ok)
    answer

pub returns-in-Ok-clause-left : goal.returns-in-Ok-clause-left
returns-in-Ok-clause-left g c =
    let a = c.in-Ok.making in
    inr (
    stops_at_prepared (λ files o. CommandComesTo files (seen (ask.Make c.args.asked.now)) o) _ _ _ _ _ _ refl refl
    (makes (made_case a) a.stages a.depth a.model.now a.faults.now) (for_files (MakeComesTo c.args.asked.now.number c.args.asked.now.stages c.args.asked.now.depth c.args.asked.now.model.now c.args.asked.now.faults.now (makes (made_case a) a.stages a.depth a.model.now a.faults.now)) (g.D.Desk.told c.args.desk.now).files c.in-Ok.ensures.ok) c.deliver_made.ensures.part
    )

pub returns-in-Err-clause-left : goal.returns-in-Err-clause-left
returns-in-Err-clause-left g c = inl (refl, refl)

pub returns-in-Ok-clause-failed : goal.returns-in-Ok-clause-failed
returns-in-Ok-clause-failed g c =
    let a = c.in-Ok.making in
    failed_finish
    (λ s. IsDelivered (makes (made_case a) a.stages a.depth a.model.now a.faults.now) s (g.D.Desk.told c.args.desk.now).files (g.D.Desk.told c.deliver_made.new.desk).files (g.D.Desk.told c.args.desk.now).said (g.D.Desk.told c.deliver_made.new.desk).said)
    _ c.deliver_made.result c.finished.result c.finished.ensures c.deliver_made.ensures.ok (λ h. not_desk h.analysis.ending h.ends) c.deliver_made.ensures.failed

pub returns-in-Ok-clause-status : goal.returns-in-Ok-clause-status
returns-in-Ok-clause-status g c =
    finished_of (seen (ask.Make c.args.asked.now)) c.finished.result c.deliver_made.result c.finished.ensures
    (IfOk-weaker c.deliver_made.result _ _
    (λ s h. analysed_of (seen (ask.Make c.args.asked.now)) c.in-Ok.making.depth (ap (λ n. Some n) (sym c.in-Ok.ensures.asked)) (made_case c.in-Ok.making) h.event _ h.analysis.sets h.analysis.ending s h.ends h.found.ends)
    c.deliver_made.ensures.ok)
