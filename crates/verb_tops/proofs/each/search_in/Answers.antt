use Rattle.std.proofs.Common.{arith, ◌≡◌, ◌+◌, length, map, take, sym, subst, ◌∙◌}
use Rattle.smv_language.specs.Language.{EachBoth, flat_tree}
use Rattle.verb_run.specs.Tables.{IsEventOf}
use Rattle.verb_tops.specs.Each.{HasReported}
use Rattle.verb_tops.specs.Work.{case_of_asked, events_of_asked, size_of_asked}
use Rattle.verb_tops.proofs.ReportLaws.{next_event, all_events, has_reported_more}
use Rattle.base_files.proofs.Stays.{later_on}
use Rattle.verb_tops.proofs.each.search_in.Goals as goal

pub search_event-requires-clause-event : goal.search_event-requires-clause-event
search_event-requires-clause-event g c =
    let a = c.args.asked.now in
    let events = subst (λ trees. EachBoth (IsEventOf (case_of_asked a)) (events_of_asked a) (map flat_tree trees)) (sym c.as_slice-tops.ensures) c.requires.able.events in
    let it = next_event (IsEventOf (case_of_asked a)) flat_tree (events_of_asked a) c.as_slice-tops.result.now c.loop-i.i c.index-tops-i.result events c.loop-i-test.true c.index-tops-i.is in
    (it.event, it.is_event)

pub search_event-requires-clause-system : goal.search_event-requires-clause-system
search_event-requires-clause-system g c = c.loop-i.invariant.system ∙ c.requires.system

pub loop-i-preserved : goal.loop-i-preserved
loop-i-preserved g c =
    let a = c.args.asked.now in
    let events = subst (λ trees. EachBoth (IsEventOf (case_of_asked a)) (events_of_asked a) (map flat_tree trees)) (sym c.as_slice-tops.ensures) c.requires.able.events in
    let it = next_event (IsEventOf (case_of_asked a)) flat_tree (events_of_asked a) c.as_slice-tops.result.now c.loop-i.i c.index-tops-i.result events c.loop-i-test.true c.index-tops-i.is in
    let at : c.loop-i.i + 1 ≡ 1 + length (take c.loop-i.i (events_of_asked a)) = let long = it.long in omega (arith, long) in
    record {
      system = c.search_event.ensures.system ∙ c.loop-i.invariant.system;
      reported =
          subst (λ es. HasReported (case_of_asked a) es a.loaded.depth (size_of_asked a) a.stem.now c.joined-status.result (g.D.Desk.told c.args.desk.now).files (g.D.Desk.told c.conclude.new.desk).files (g.D.Desk.told c.args.desk.now).said (g.D.Desk.told c.conclude.new.desk).said) (sym it.next)
          (has_reported_more (case_of_asked a) (take c.loop-i.i (events_of_asked a)) a.loaded.depth (size_of_asked a) a.stem.now c.loop-i.status _ _ _ _ _ _ c.loop-i.invariant.reported it.event (c.loop-i.i + 1)
          c.in_ok-found.found at (c.in_ok-found.ensures.found it.event it.is_event) c.as_str.result.now (c.as_str.ensures.value ∙ c.in_ok-name.ensures) c.in_ok-conclude.ensures.ok.0 c.in_ok-conclude.ensures.ok.1 c.joined-status.result c.joined-status.ensures);
      stays = later_on _ _ _ c.loop-i.invariant.stays c.conclude.ensures.stays;
    }

pub returns-clause-ok : goal.returns-clause-ok
returns-clause-ok g c =
    let a = c.args.asked.now in
    let events = subst (λ trees. EachBoth (IsEventOf (case_of_asked a)) (events_of_asked a) (map flat_tree trees)) (sym c.as_slice-tops.ensures) c.requires.able.events in
    let all = all_events (IsEventOf (case_of_asked a)) flat_tree (events_of_asked a) c.as_slice-tops.result.now c.loop-i.i events (omega (arith, c.loop-i-test.false)) in
    subst (λ es. HasReported (case_of_asked a) es a.loaded.depth (size_of_asked a) a.stem.now c.loop-i.status (g.D.Desk.told c.args.desk.now).files (g.D.Desk.told c.loop-i.desk).files (g.D.Desk.told c.args.desk.now).said (g.D.Desk.told c.loop-i.desk).said) all c.loop-i.invariant.reported
