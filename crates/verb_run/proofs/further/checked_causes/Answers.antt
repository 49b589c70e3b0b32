use Rattle.std.proofs.Common.{List, ⊎_elim, ◌≡◌}
use Rattle.base_files.specs.declared.files.NamedFile.{NamedFile}
use Rattle.verb_causes.specs.Causes.{HasCheckedCauses, ChecksCausesInPart}
use Rattle.verb_loading.specs.declared.status.Status.{Status}
use Rattle.verb_loading.specs.declared.status.Status.TheVariants as status
use Rattle.verb_run.specs.Runs.{Stands, StandsInPart, accepts_causes, is_refused, is_done, CommandComesTo}
use Rattle.verb_run.proofs.FurtherLaws.{answers_work, leaves_work, rose_before, some_told, left_said, done_also}
use Rattle.verb_command_line.specs.declared.command.Command.TheVariants as ask
use Rattle.verb_command_line.specs.CommandView.{seen}
use Rattle.verb_loading.proofs.SaidLaws.{rose_later}
use Rattle.verb_run.proofs.StatusLaws.{concluded_of, done_of}
use Rattle.base_files.proofs.Stays.{says_later, later_on}
use Rattle.verb_run.proofs.further.checked_causes.Goals as goal

pub returns-clause-answered : goal.returns-clause-answered
returns-clause-answered g c answer =
    let so : (files : List NamedFile) (s : Status) → HasCheckedCauses files c.args.asked.now.model.now c.args.asked.now.faults.now c.args.asked.now.causes.now c.args.asked.now.top.now c.args.asked.now.cert.now (g.D.Desk.told c.args.desk.now).said (g.D.Desk.told c.check_causes-done.new.desk).said → s ≡ status.Done → Stands (λ o. CommandComesTo files (seen (ask.CheckCauses c.args.asked.now)) o) s (g.D.Desk.told c.args.desk.now).files (g.D.Desk.told c.check_causes-done.new.desk).files (g.D.Desk.told c.args.desk.now).said (g.D.Desk.told c.check_causes-done.new.desk).said
    = λ files s h end. record {
      outcome = accepts_causes files c.args.asked.now.model.now c.args.asked.now.faults.now c.args.asked.now.causes.now c.args.asked.now.top.now c.args.asked.now.cert.now;
      means = is_done (h.report, h.accepts);
      delivered = (end, c.check_causes-done.ensures.stays.files, h);
    } in
    answers_work (λ files o. CommandComesTo files (seen (ask.CheckCauses c.args.asked.now)) o) _ _ _ _ _ _ c.check_causes-done.result c.concluded.result
    (done_also c.check_causes-done.result _ _ _ _
    so
    c.check_causes-done.ensures.ok c.check_causes-done.ensures.ends)
    (λ r e. some_told _ _ _ (λ files bad. is_refused r bad) (c.check_causes-done.ensures.refused r e))
    c.check_causes-done.ensures.untouched
    c.concluded.ensures.concluded answer

pub returns-clause-left : goal.returns-clause-left
returns-clause-left g c =
    let so : (files : List NamedFile) → ChecksCausesInPart files c.args.asked.now.model.now c.args.asked.now.faults.now c.args.asked.now.causes.now c.args.asked.now.top.now c.args.asked.now.cert.now (g.D.Desk.told c.args.desk.now).said (g.D.Desk.told c.check_causes-done.new.desk).said → StandsInPart (λ o. CommandComesTo files (seen (ask.CheckCauses c.args.asked.now)) o) (g.D.Desk.told c.args.desk.now).files (g.D.Desk.told c.check_causes-done.new.desk).files (g.D.Desk.told c.args.desk.now).said (g.D.Desk.told c.check_causes-done.new.desk).said
    = λ files h. record {
      outcome = accepts_causes files c.args.asked.now.model.now c.args.asked.now.faults.now c.args.asked.now.causes.now c.args.asked.now.top.now c.args.asked.now.cert.now;
      means = is_done (h.report, h.accepts);
      in_part = (c.check_causes-done.ensures.stays.files, h);
    } in
    leaves_work (λ files o. CommandComesTo files (seen (ask.CheckCauses c.args.asked.now)) o) _ _ _ _ _ _ c.check_causes-done.result c.concluded.result
    (left_said _ _ _ _ _
    so
    c.check_causes-done.ensures.stays.files c.check_causes-done.ensures.left)
    (λ r e. some_told _ _ _ (λ files bad. is_refused r bad) (c.check_causes-done.ensures.refused r e))
    c.check_causes-done.ensures.untouched
    c.concluded.ensures.concluded

pub returns-clause-failed : goal.returns-clause-failed
returns-clause-failed g c desk =
    ⊎_elim (λ e. rose_before _ _ _ (c.check_causes-done.ensures.failed e) c.concluded.ensures.stays.later) (λ rose. rose_later _ _ _ c.check_causes-done.ensures.stays.later rose) (c.concluded.ensures.failed desk)

pub returns-clause-stays : goal.returns-clause-stays
returns-clause-stays g c = later_on _ _ _ (says_later _ _ c.check_causes-done.ensures.stays) c.concluded.ensures.stays

pub returns-clause-status : goal.returns-clause-status
returns-clause-status g c =
    concluded_of (seen (ask.CheckCauses c.args.asked.now)) c.concluded.result c.check_causes-done.result _ _ _ _
    (done_of (seen (ask.CheckCauses c.args.asked.now)) c.check_causes-done.result c.check_causes-done.ensures.ends)
    c.concluded.ensures.concluded

pub concluded-requires : goal.concluded-requires
concluded-requires g c = c.check_causes-done.ensures.finished
