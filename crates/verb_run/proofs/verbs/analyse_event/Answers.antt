use Rattle.std.proofs.Common.{Some, Err, inr, sym, ap}
use Rattle.verb_command_line.specs.declared.command.Command.TheVariants as ask
use Rattle.verb_command_line.specs.CommandView.{seen}
use Rattle.verb_run.specs.Findings.{analysed_case, analysed_size}
use Rattle.verb_run.specs.Runs.{analyses, CommandComesTo, IsDelivered}
use Rattle.verb_run.proofs.OutcomeLemmas.{answers_prepared, stops_at_prepared, finished_answers, failed_finish, not_desk, answers_stop, leaves_stop}
use Rattle.verb_loading.proofs.SaidLaws.{rose_later}
use Rattle.verb_run.proofs.StatusLaws.{finished_of, analysed_of, stopped_of}
use Rattle.std.proofs.lemmas.Result.{IfOk-weaker}
use Rattle.base_files.proofs.Stays.{reads_later, later_on}
use Rattle.verb_run.proofs.verbs.analyse_event.Goals as goal

pub returns-in-Ok-clause-answered : goal.returns-in-Ok-clause-answered
returns-in-Ok-clause-answered g c answer =
    let a = c.in-Ok.analysing in
    answers_prepared (λ files o. CommandComesTo files (seen (ask.Analyse c.args.asked.now)) o) _ _ _ _ _ _ c.prepare_analysis.ensures.stays.files c.prepare_analysis.ensures.stays.said
    (analyses (analysed_case a) a.word.now a.depth (analysed_size a) a.extended.now a.cert.now) c.finished.result c.in-Ok.ensures.ok
    (finished_answers
    (λ s. IsDelivered (analyses (analysed_case a) a.word.now a.depth (analysed_size a) a.extended.now a.cert.now) s (g.D.Desk.told c.prepare_analysis.new.desk).files (g.D.Desk.told c.deliver_analysis.new.desk).files (g.D.Desk.told c.prepare_analysis.new.desk).said (g.D.Desk.told c.deliver_analysis.new.desk).said)
    c.deliver_analysis.result c.finished.result c.finished.ensures c.deliver_analysis.ensures.ok)
    answer

pub returns-in-Ok-clause-left : goal.returns-in-Ok-clause-left
returns-in-Ok-clause-left g c =
    let a = c.in-Ok.analysing in
    inr (
    stops_at_prepared (λ files o. CommandComesTo files (seen (ask.Analyse c.args.asked.now)) o) _ _ _ _ _ _ c.prepare_analysis.ensures.stays.files c.prepare_analysis.ensures.stays.said
    (analyses (analysed_case a) a.word.now a.depth (analysed_size a) a.extended.now a.cert.now) c.in-Ok.ensures.ok c.deliver_analysis.ensures.part
    )

pub returns-in-Err-clause-answered : goal.returns-in-Err-clause-answered
returns-in-Err-clause-answered g c answer =
    answers_stop (λ files o. CommandComesTo files (seen (ask.Analyse c.args.asked.now)) o) _ _ _ _ _ _ c.prepare_analysis.ensures.stays.files c.prepare_analysis.ensures.stays.said c.in-Err.stop c.stopped.result
    (λ r is. c.in-Err.ensures.refused r (ap (λ s. Err s) is)) c.stopped.ensures.stopped answer

pub returns-in-Err-clause-left : goal.returns-in-Err-clause-left
returns-in-Err-clause-left g c =
    leaves_stop (λ files o. CommandComesTo files (seen (ask.Analyse c.args.asked.now)) o) _ _ _ _ _ _ c.prepare_analysis.ensures.stays.files c.prepare_analysis.ensures.stays.said c.in-Err.stop c.stopped.result
    (λ r is. c.in-Err.ensures.refused r (ap (λ s. Err s) is)) c.stopped.ensures.stopped

pub returns-in-Ok-clause-failed : goal.returns-in-Ok-clause-failed
returns-in-Ok-clause-failed g c desk =
    let a = c.in-Ok.analysing in
    rose_later _ _ _ c.prepare_analysis.ensures.stays.later
    (failed_finish
    (λ s. IsDelivered (analyses (analysed_case a) a.word.now a.depth (analysed_size a) a.extended.now a.cert.now) s (g.D.Desk.told c.prepare_analysis.new.desk).files (g.D.Desk.told c.deliver_analysis.new.desk).files (g.D.Desk.told c.prepare_analysis.new.desk).said (g.D.Desk.told c.deliver_analysis.new.desk).said)
    _ c.deliver_analysis.result c.finished.result c.finished.ensures c.deliver_analysis.ensures.ok (λ h. not_desk h.analysis.ending h.ends) c.deliver_analysis.ensures.failed desk)

pub returns-in-Ok-clause-stays : goal.returns-in-Ok-clause-stays
returns-in-Ok-clause-stays g c = later_on _ _ _ (reads_later _ _ c.prepare_analysis.ensures.stays) c.deliver_analysis.ensures.stays

pub returns-in-Ok-clause-status : goal.returns-in-Ok-clause-status
returns-in-Ok-clause-status g c =
    finished_of (seen (ask.Analyse c.args.asked.now)) c.finished.result c.deliver_analysis.result c.finished.ensures
    (IfOk-weaker c.deliver_analysis.result _ _
    (λ s h. analysed_of (seen (ask.Analyse c.args.asked.now)) c.in-Ok.analysing.depth (ap (λ n. Some n) (sym c.in-Ok.ensures.asked)) (analysed_case c.in-Ok.analysing) h.event _ h.analysis.sets h.analysis.ending s h.ends
    h.found.ends)
    c.deliver_analysis.ensures.ok)

pub returns-in-Err-clause-status : goal.returns-in-Err-clause-status
returns-in-Err-clause-status g c = stopped_of (seen (ask.Analyse c.args.asked.now)) c.stopped.result c.in-Err.stop _ _ _ _ c.stopped.ensures.stopped

pub returns-in-Err-clause-stays : goal.returns-in-Err-clause-stays
returns-in-Err-clause-stays g c = later_on _ _ _ (reads_later _ _ c.prepare_analysis.ensures.stays) c.stopped.ensures.stays
