use Rattle.std.proofs.Common.{IfOk, ap, subst, ◌∙◌}
use Rattle.base_files.specs.Desk.{told_with}
use Rattle.smv_language.specs.Text.{program_text}
use Rattle.verb_tops.specs.Each.{HasReported}
use Rattle.verb_tops.specs.Work.{case_of_asked, events_of_asked, size_of_asked}
use Rattle.base_files.proofs.Stays.{later_on}
use Rattle.verb_run.proofs.Concluded.{writes_later}
use Rattle.verb_tops.proofs.each.deliver_each.Goals as goal

pub returns-clause-ok : goal.returns-clause-ok
returns-clause-ok g c =
    let a = c.args.asked.now in
    let files =
    c.in_ok-write_whole.ensures.ok
    ∙ ap (told_with (g.D.Desk.told c.args.desk.now).files a.extended.now) (c.deref.ensures.value ∙ c.in_ok-text.ensures.text ∙ ap program_text c.requires.extensible.loaded.program) in
    subst (λ t. IfOk c.search_each.result (λ s. HasReported (case_of_asked a) (events_of_asked a) a.loaded.depth (size_of_asked a) a.stem.now s t (g.D.Desk.told c.search_each.new.desk).files
    (g.D.Desk.told c.args.desk.now).said (g.D.Desk.told c.search_each.new.desk).said)) files
    (subst (λ t. IfOk c.search_each.result (λ s. HasReported (case_of_asked a) (events_of_asked a) a.loaded.depth (size_of_asked a) a.stem.now s (g.D.Desk.told c.write_whole.new.desk).files (g.D.Desk.told c.search_each.new.desk).files
    t (g.D.Desk.told c.search_each.new.desk).said)) c.write_whole.ensures.stays.said c.search_each.ensures.ok)

pub returns-clause-stays : goal.returns-clause-stays
returns-clause-stays g c = later_on _ _ _ (writes_later _ _ c.write_whole.ensures.stays) c.search_each.ensures.stays
