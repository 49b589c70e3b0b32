use Rattle.std.proofs.Common.{codes, List, ⊎_elim}
use Rattle.base_files.specs.declared.files.NamedFile.{NamedFile}
use Rattle.verb_orders.specs.Orders.{HasCheckedOrder, AcceptsOrder}
use Rattle.verb_loading.specs.declared.status.Status.{Status}
use Rattle.base_files.specs.Desk.{SaysPrefix}
use Rattle.verb_run.specs.Runs.{Stands, StandsInPart, accepts_order, is_refused, is_done, CommandComesTo}
use Rattle.verb_run.proofs.FurtherLaws.{answers_work, leaves_work, rose_before, done_told, some_told, given_done, line_left}
use Rattle.verb_command_line.specs.Sets.{numbers_of}
use Rattle.verb_command_line.specs.declared.command.Command.TheVariants as ask
use Rattle.verb_command_line.specs.CommandView.{seen}
use Rattle.verb_loading.proofs.SaidLaws.{rose_later}
use Rattle.verb_run.proofs.StatusLaws.{concluded_of, done_of}
use Rattle.base_files.proofs.Stays.{says_later, later_on}
use Rattle.verb_run.proofs.further.checked_orders.Goals as goal

pub returns-clause-answered : goal.returns-clause-answered
returns-clause-answered g c answer =
    let so : (files : List NamedFile) (s : Status) → HasCheckedOrder files c.args.asked.now.model.now c.args.asked.now.faults.now c.args.asked.now.top.now (numbers_of c.args.asked.now.set.now) c.args.asked.now.first c.args.asked.now.second c.args.asked.now.claim.now c.args.asked.now.cert.now s (g.D.Desk.told c.args.desk.now).said (g.D.Desk.told c.check_orders-done.new.desk).said → Stands (λ o. CommandComesTo files (seen (ask.CheckOrders c.args.asked.now)) o) s (g.D.Desk.told c.args.desk.now).files (g.D.Desk.told c.check_orders-done.new.desk).files (g.D.Desk.told c.args.desk.now).said (g.D.Desk.told c.check_orders-done.new.desk).said
    = λ files s h. record {
      outcome = accepts_order files c.args.asked.now.model.now c.args.asked.now.faults.now c.args.asked.now.top.now (numbers_of c.args.asked.now.set.now) c.args.asked.now.first c.args.asked.now.second c.args.asked.now.claim.now c.args.asked.now.cert.now;
      means = is_done h.accepts;
      delivered = (h.ends, c.check_orders-done.ensures.stays.files, h);
    } in
    answers_work (λ files o. CommandComesTo files (seen (ask.CheckOrders c.args.asked.now)) o) _ _ _ _ _ _ c.check_orders-done.result c.concluded.result
    (done_told c.check_orders-done.result _ _ _
    so
    (given_done c.check_orders-done.result _ _ c.check_orders-done.ensures.ok c.requires))
    (λ r e. some_told _ _ _ (λ files bad. is_refused r bad) (c.check_orders-done.ensures.refused r e c.requires))
    c.check_orders-done.ensures.untouched
    c.concluded.ensures.concluded answer

pub returns-clause-left : goal.returns-clause-left
returns-clause-left g c =
    let so : (files : List NamedFile) → SaysPrefix (g.D.Desk.told c.args.desk.now).said (g.D.Desk.told c.check_orders-done.new.desk).said (codes "accepted\n") → AcceptsOrder files c.args.asked.now.model.now c.args.asked.now.faults.now c.args.asked.now.top.now (numbers_of c.args.asked.now.set.now) c.args.asked.now.first c.args.asked.now.second c.args.asked.now.claim.now c.args.asked.now.cert.now → StandsInPart (λ o. CommandComesTo files (seen (ask.CheckOrders c.args.asked.now)) o) (g.D.Desk.told c.args.desk.now).files (g.D.Desk.told c.check_orders-done.new.desk).files (g.D.Desk.told c.args.desk.now).said (g.D.Desk.told c.check_orders-done.new.desk).said
    = λ files says h. record {
      outcome = accepts_order files c.args.asked.now.model.now c.args.asked.now.faults.now c.args.asked.now.top.now (numbers_of c.args.asked.now.set.now) c.args.asked.now.first c.args.asked.now.second c.args.asked.now.claim.now c.args.asked.now.cert.now;
      means = is_done h;
      in_part = (c.check_orders-done.ensures.stays.files, h, says);
    } in
    leaves_work (λ files o. CommandComesTo files (seen (ask.CheckOrders c.args.asked.now)) o) _ _ _ _ _ _ c.check_orders-done.result c.concluded.result
    (line_left _ _ _ _ _ _ _
    so
    c.check_orders-done.ensures.stays.files c.check_orders-done.ensures.left c.requires)
    (λ r e. some_told _ _ _ (λ files bad. is_refused r bad) (c.check_orders-done.ensures.refused r e c.requires))
    c.check_orders-done.ensures.untouched
    c.concluded.ensures.concluded

pub returns-clause-failed : goal.returns-clause-failed
returns-clause-failed g c desk =
    ⊎_elim (λ e. rose_before _ _ _ (c.check_orders-done.ensures.failed e) c.concluded.ensures.stays.later) (λ rose. rose_later _ _ _ c.check_orders-done.ensures.stays.later rose) (c.concluded.ensures.failed desk)

pub returns-clause-stays : goal.returns-clause-stays
returns-clause-stays g c = later_on _ _ _ (says_later _ _ c.check_orders-done.ensures.stays) c.concluded.ensures.stays

pub returns-clause-status : goal.returns-clause-status
returns-clause-status g c =
    concluded_of (seen (ask.CheckOrders c.args.asked.now)) c.concluded.result c.check_orders-done.result _ _ _ _
    (done_of (seen (ask.CheckOrders c.args.asked.now)) c.check_orders-done.result c.check_orders-done.ensures.ends)
    c.concluded.ensures.concluded

pub concluded-requires : goal.concluded-requires
concluded-requires g c = c.check_orders-done.ensures.finished
