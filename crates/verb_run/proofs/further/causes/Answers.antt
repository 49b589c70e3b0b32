use Rattle.std.proofs.Common.{List, ⊎_elim, refl}
use Rattle.std.proofs.lemmas.Result.{IfOk-weaker}
use Rattle.base_files.specs.declared.files.NamedFile.{NamedFile}
use Rattle.verb_causes.specs.Causes.{HasFoundCauses, FindsCausesInPart}
use Rattle.verb_loading.specs.declared.status.Status.{Status}
use Rattle.verb_run.specs.Runs.{Stands, StandsInPart, finds_causes, is_refused, is_done, CommandComesTo}
use Rattle.verb_run.proofs.FurtherLaws.{answers_work, leaves_work, rose_before, done_told, some_told, left_told}
use Rattle.verb_causes.proofs.OneRefusal.{staged_of_caused}
use Rattle.verb_command_line.specs.declared.command.Command.TheVariants as ask
use Rattle.verb_command_line.specs.CommandView.{seen}
use Rattle.verb_loading.specs.Statuses.{EndsWithin, IsBoundedAt, IsFinished}
use Rattle.verb_loading.proofs.SaidLaws.{rose_later}
use Rattle.verb_run.proofs.StatusLaws.{concluded_of, work_of}
use Rattle.base_files.proofs.Stays.{later_on}
use Rattle.verb_run.proofs.further.causes.Goals as goal

pub returns-clause-answered : goal.returns-clause-answered
returns-clause-answered g c answer =
    let so : (files : List NamedFile) (s : Status) → HasFoundCauses files c.args.asked.now.model.now c.args.asked.now.faults.now c.args.asked.now.causes.now c.args.asked.now.top.now c.args.asked.now.cert.now c.args.asked.now.depth s (g.D.Desk.told c.args.desk.now).files (g.D.Desk.told c.find_causes-done.new.desk).files (g.D.Desk.told c.args.desk.now).said (g.D.Desk.told c.find_causes-done.new.desk).said → Stands (λ o. CommandComesTo files (seen (ask.Causes c.args.asked.now)) o) s (g.D.Desk.told c.args.desk.now).files (g.D.Desk.told c.find_causes-done.new.desk).files (g.D.Desk.told c.args.desk.now).said (g.D.Desk.told c.find_causes-done.new.desk).said
    = λ files s h. record {
      outcome = finds_causes files c.args.asked.now.model.now c.args.asked.now.faults.now c.args.asked.now.causes.now c.args.asked.now.top.now c.args.asked.now.depth c.args.asked.now.cert.now;
      means = is_done (staged_of_caused files c.args.asked.now.model.now c.args.asked.now.faults.now c.args.asked.now.causes.now c.args.asked.now.top.now h.finds.loaded h.finds.holds);
      delivered = h;
    } in
    answers_work (λ files o. CommandComesTo files (seen (ask.Causes c.args.asked.now)) o) _ _ _ _ _ _ c.find_causes-done.result c.concluded.result
    (done_told c.find_causes-done.result _ _ _
    so
    c.find_causes-done.ensures.ok)
    (λ r e. some_told _ _ _ (λ files bad. is_refused r bad) (c.find_causes-done.ensures.refused r e))
    c.find_causes-done.ensures.untouched
    c.concluded.ensures.concluded answer

pub returns-clause-left : goal.returns-clause-left
returns-clause-left g c =
    let so : (files : List NamedFile) → FindsCausesInPart files c.args.asked.now.model.now c.args.asked.now.faults.now c.args.asked.now.causes.now c.args.asked.now.top.now c.args.asked.now.cert.now c.args.asked.now.depth (g.D.Desk.told c.args.desk.now).files (g.D.Desk.told c.find_causes-done.new.desk).files (g.D.Desk.told c.args.desk.now).said (g.D.Desk.told c.find_causes-done.new.desk).said → StandsInPart (λ o. CommandComesTo files (seen (ask.Causes c.args.asked.now)) o) (g.D.Desk.told c.args.desk.now).files (g.D.Desk.told c.find_causes-done.new.desk).files (g.D.Desk.told c.args.desk.now).said (g.D.Desk.told c.find_causes-done.new.desk).said
    = λ files h. record {
      outcome = finds_causes files c.args.asked.now.model.now c.args.asked.now.faults.now c.args.asked.now.causes.now c.args.asked.now.top.now c.args.asked.now.depth c.args.asked.now.cert.now;
      means = is_done (staged_of_caused files c.args.asked.now.model.now c.args.asked.now.faults.now c.args.asked.now.causes.now c.args.asked.now.top.now h.finds.loaded h.finds.holds);
      in_part = h;
    } in
    leaves_work (λ files o. CommandComesTo files (seen (ask.Causes c.args.asked.now)) o) _ _ _ _ _ _ c.find_causes-done.result c.concluded.result
    (left_told _ _ _ _
    so
    c.find_causes-done.ensures.left)
    (λ r e. some_told _ _ _ (λ files bad. is_refused r bad) (c.find_causes-done.ensures.refused r e))
    c.find_causes-done.ensures.untouched
    c.concluded.ensures.concluded

pub returns-clause-failed : goal.returns-clause-failed
returns-clause-failed g c desk =
    ⊎_elim (λ e. rose_before _ _ _ (c.find_causes-done.ensures.failed e) c.concluded.ensures.stays.later) (λ rose. rose_later _ _ _ c.find_causes-done.ensures.stays.later rose) (c.concluded.ensures.failed desk)

pub returns-clause-stays : goal.returns-clause-stays
returns-clause-stays g c = later_on _ _ _ c.find_causes-done.ensures.stays c.concluded.ensures.stays

pub returns-clause-status : goal.returns-clause-status
returns-clause-status g c =
    concluded_of (seen (ask.Causes c.args.asked.now)) c.concluded.result c.find_causes-done.result _ _ _ _
    (work_of (seen (ask.Causes c.args.asked.now)) c.args.asked.now.depth refl c.find_causes-done.result
    (IfOk-weaker c.find_causes-done.result (EndsWithin c.args.asked.now.depth) IsFinished (λ s e. e.finished) c.find_causes-done.ensures.ends)
    (IfOk-weaker c.find_causes-done.result (EndsWithin c.args.asked.now.depth) (IsBoundedAt c.args.asked.now.depth) (λ s e. e.bounded) c.find_causes-done.ensures.ends))
    c.concluded.ensures.concluded

pub concluded-requires : goal.concluded-requires
concluded-requires g c = IfOk-weaker c.find_causes-done.result (EndsWithin c.args.asked.now.depth) IsFinished (λ s e. e.finished) c.find_causes-done.ensures.ends
