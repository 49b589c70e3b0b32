use Rattle.std.proofs.Common.{Err, IfOk, length, map, ap, subst}
use Rattle.cut_model_search.specs.CaseAnalysis.{size_for}
use Rattle.verb_loading.proofs.SaidLaws.{rose_later}
use Rattle.verb_run.specs.Tables.{tabulated_case, tabulated_events}
use Rattle.verb_run.proofs.OutcomeLemmas.{finished_answers, failed_finish, no_column_desk}
use Rattle.verb_tops.specs.Each.{HasAnalysedEach}
use Rattle.verb_tops.proofs.AnsweredLaws.{each_answered, stop_answered}
use Rattle.verb_tops.proofs.run.analyse_each.Goals as goal

pub returns-in-Ok-clause-answered : goal.returns-in-Ok-clause-answered
returns-in-Ok-clause-answered g c answer =
    let a = c.args.asked.now in
    let l = c.in-Ok.loaded in
    let n = size_for a.size (length (tabulated_case l).faults) in
    each_answered a.model.now a.faults.now a.top.now a.depth a.extended.now a.cert.now a.size _ _ _ _ _ _ c.load_table.ensures.stays.files c.load_table.ensures.stays.said c.finished.result (tabulated_case l) (tabulated_events l)
    c.in-Ok.ensures.ok c.in-Ok.ensures.tops
    (finished_answers
    (λ s. HasAnalysedEach (tabulated_case l) (tabulated_events l) a.depth n a.extended.now a.cert.now s (g.D.Desk.told c.load_table.new.desk).files (g.D.Desk.told c.deliver_each.new.desk).files (g.D.Desk.told c.load_table.new.desk).said (g.D.Desk.told c.deliver_each.new.desk).said)
    c.deliver_each.result c.finished.result c.finished.ensures
    (subst (λ d. IfOk c.deliver_each.result (λ s. HasAnalysedEach (tabulated_case l) (tabulated_events l) d n a.extended.now a.cert.now s (g.D.Desk.told c.load_table.new.desk).files (g.D.Desk.told c.deliver_each.new.desk).files (g.D.Desk.told c.load_table.new.desk).said (g.D.Desk.told c.deliver_each.new.desk).said))
    c.in-Ok.ensures.asked.1 c.deliver_each.ensures.ok) answer)

pub returns-in-Ok-clause-failed : goal.returns-in-Ok-clause-failed
returns-in-Ok-clause-failed g c desk =
    let a = c.args.asked.now in
    let l = c.in-Ok.loaded in
    rose_later _ _ _ c.load_table.ensures.stays.later
    (failed_finish
    (λ s. HasAnalysedEach (tabulated_case l) (tabulated_events l) l.depth (size_for a.size (length (tabulated_case l).faults)) a.extended.now a.cert.now s (g.D.Desk.told c.load_table.new.desk).files (g.D.Desk.told c.deliver_each.new.desk).files (g.D.Desk.told c.load_table.new.desk).said (g.D.Desk.told c.deliver_each.new.desk).said)
    _ c.deliver_each.result c.finished.result c.finished.ensures c.deliver_each.ensures.ok (λ h. no_column_desk (map (λ e. e.ending) h.analyses) h.ends) c.deliver_each.ensures.failed desk)

pub returns-in-Err-clause-answered : goal.returns-in-Err-clause-answered
returns-in-Err-clause-answered g c answer =
    let a = c.args.asked.now in
    stop_answered a.model.now a.faults.now a.top.now a.depth a.extended.now a.cert.now a.size _ _ _ _ _ _ c.load_table.ensures.stays.files c.load_table.ensures.stays.said c.stopped.result c.in-Err.stop
    (λ r is. c.in-Err.ensures.refused r (ap (λ s. Err s) is)) c.stopped.ensures.stopped answer
