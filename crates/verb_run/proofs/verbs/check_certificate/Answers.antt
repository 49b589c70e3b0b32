use Rattle.std.proofs.Common.{Err, inr, ap}
use Rattle.verb_command_line.specs.declared.command.Command.TheVariants as ask
use Rattle.verb_command_line.specs.CommandView.{seen}
use Rattle.verb_run.specs.Runs.{says, CommandComesTo}
use Rattle.verb_run.proofs.OutcomeLemmas.{answers_prepared, stops_at_prepared, answers_stop, leaves_stop}
use Rattle.verb_run.proofs.StatusLaws.{answered_of, stopped_of}
use Rattle.base_files.proofs.Stays.{reads_later, later_on}
use Rattle.verb_run.proofs.verbs.check_certificate.Goals as goal

pub returns-in-Ok-clause-answered : goal.returns-in-Ok-clause-answered
returns-in-Ok-clause-answered g c answer =
    answers_prepared (λ files o. CommandComesTo files (seen (ask.Check c.args.asked.now)) o) _ _ _ _ _ _ c.prepare_check.ensures.stays.files c.prepare_check.ensures.stays.said
    (says c.in-Ok.report) c.deliver_report.result c.in-Ok.ensures.ok c.deliver_report.ensures.done answer

pub returns-in-Ok-clause-left : goal.returns-in-Ok-clause-left
returns-in-Ok-clause-left g c =
    inr (
    stops_at_prepared (λ files o. CommandComesTo files (seen (ask.Check c.args.asked.now)) o) _ _ _ _ _ _ c.prepare_check.ensures.stays.files c.prepare_check.ensures.stays.said
    (says c.in-Ok.report) c.in-Ok.ensures.ok c.deliver_report.ensures.part
    )

pub returns-in-Err-clause-answered : goal.returns-in-Err-clause-answered
returns-in-Err-clause-answered g c answer =
    answers_stop (λ files o. CommandComesTo files (seen (ask.Check c.args.asked.now)) o) _ _ _ _ _ _ c.prepare_check.ensures.stays.files c.prepare_check.ensures.stays.said c.in-Err.stop c.stopped.result
    (λ r is. c.in-Err.ensures.refused r (ap (λ s. Err s) is)) c.stopped.ensures.stopped answer

pub returns-in-Err-clause-left : goal.returns-in-Err-clause-left
returns-in-Err-clause-left g c =
    leaves_stop (λ files o. CommandComesTo files (seen (ask.Check c.args.asked.now)) o) _ _ _ _ _ _ c.prepare_check.ensures.stays.files c.prepare_check.ensures.stays.said c.in-Err.stop c.stopped.result
    (λ r is. c.in-Err.ensures.refused r (ap (λ s. Err s) is)) c.stopped.ensures.stopped

pub returns-in-Ok-clause-status : goal.returns-in-Ok-clause-status
returns-in-Ok-clause-status g c = answered_of (seen (ask.Check c.args.asked.now)) c.deliver_report.result (λ answer. (c.deliver_report.ensures.done answer).0)

pub returns-in-Err-clause-status : goal.returns-in-Err-clause-status
returns-in-Err-clause-status g c = stopped_of (seen (ask.Check c.args.asked.now)) c.stopped.result c.in-Err.stop _ _ _ _ c.stopped.ensures.stopped

pub returns-in-Ok-clause-stays : goal.returns-in-Ok-clause-stays
returns-in-Ok-clause-stays g c = later_on _ _ _ (reads_later _ _ c.prepare_check.ensures.stays) c.deliver_report.ensures.stays

pub returns-in-Err-clause-stays : goal.returns-in-Err-clause-stays
returns-in-Err-clause-stays g c = later_on _ _ _ (reads_later _ _ c.prepare_check.ensures.stays) c.stopped.ensures.stays
