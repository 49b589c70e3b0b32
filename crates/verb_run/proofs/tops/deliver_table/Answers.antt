use Rattle.std.proofs.Common.{map, inl, refl, ap, subst, ◌∙◌}
use Rattle.base_files.specs.Desk.{said_more, SaysPrefix}
use Rattle.cut_text_laws.specs.Analysis.{told_ending}
use Rattle.verb_run.specs.Tables.{tabulated_case, tabulated_events, ended_with_all}
use Rattle.verb_run.proofs.Columns.{has_tabulated, tabulates_begun, whole_said}
use Rattle.verb_run.proofs.tops.deliver_table.Goals as goal

pub returns-in_err-columns-clause-part : goal.returns-in_err-columns-clause-part
returns-in_err-columns-clause-part g c = (refl, inl refl)

pub text_of-requires-clause-named : goal.text_of-requires-clause-named
text_of-requires-clause-named g c = c.in_ok-columns.ensures.named

pub returns-in_err-text-clause-part : goal.returns-in_err-text-clause-part
returns-in_err-text-clause-part g c = (refl, inl refl)

pub returns-in_err-say_whole-clause-part : goal.returns-in_err-say_whole-clause-part
returns-in_err-say_whole-clause-part g c =
    let a = c.args.asked.now in
    tabulates_begun (tabulated_case a) (tabulated_events a) a.size a.depth c.in_ok-columns.columns c.in_ok-columns.ensures c.in_ok-text.text.items c.in_ok-text.ensures _ _ _ _ c.say_whole.ensures.stays.files
    (subst (λ bytes. SaysPrefix (g.D.Desk.told c.args.desk.now).said (g.D.Desk.told c.say_whole.new.desk).said bytes) c.deref.ensures.value c.in_err-say_whole.ensures.err)

pub returns-clause-ok : goal.returns-clause-ok
returns-clause-ok g c =
    let a = c.args.asked.now in
    has_tabulated (tabulated_case a) (tabulated_events a) a.size a.depth c.in_ok-columns.columns c.in_ok-columns.ensures c.in_ok-text.text.items c.in_ok-text.ensures c.status_of_all.result
    (c.status_of_all.ensures ∙ ap (λ xs. ended_with_all (map (λ column. told_ending column.ending) xs)) c.as_slice.ensures) _ _ _ _ c.say_whole.ensures.stays.files
    (c.in_ok-say_whole.ensures.ok ∙ ap (said_more (g.D.Desk.told c.args.desk.now).said) c.deref.ensures.value)

pub returns-clause-part : goal.returns-clause-part
returns-clause-part g c =
    let a = c.args.asked.now in
    tabulates_begun (tabulated_case a) (tabulated_events a) a.size a.depth c.in_ok-columns.columns c.in_ok-columns.ensures c.in_ok-text.text.items c.in_ok-text.ensures _ _ _ _ c.say_whole.ensures.stays.files
    (whole_said _ _ _ _ c.in_ok-say_whole.ensures.ok c.deref.ensures.value)
