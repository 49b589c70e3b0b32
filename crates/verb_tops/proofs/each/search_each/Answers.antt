use Rattle.std.proofs.Common.{◌≡◌, [], length, map, refl, sym, ap, subst, ◌∙◌, eqb-true, arith}
use Rattle.smv_language.specs.Language.{program_tree, EachBoth, flat_tree}
use Rattle.verb_loading.specs.declared.status.Status.TheVariants as status
use Rattle.sat_encoding_laws.specs.Lists.{system_of}
use Rattle.cut_model_search.specs.FaultyModels.{whole_in}
use Rattle.verb_run.specs.Tables.{IsEventOf}
use Rattle.verb_run.proofs.TableLemmas.{first_at}
use Rattle.verb_run.proofs.TopEvents.{event_searchable}
use Rattle.verb_tops.specs.Each.{HasReported}
use Rattle.verb_tops.specs.Work.{case_of_asked, events_of_asked, size_of_asked}
use Rattle.verb_tops.proofs.ReportLaws.{none_reported, some_there, no_events}
use Rattle.verb_tops.proofs.each.search_each.Goals as goal
use Rattle.std.proofs.lemmas.List.{nil_from_length}

pub returns-then-is_empty-clause-ok : goal.returns-then-is_empty-clause-ok
returns-then-is_empty-clause-ok g c =
    let a = c.args.asked.now in
    let xs = c.as_slice-tops.result.now in
    let none : a.loaded.tops.over ≡ [] = sym c.as_slice-tops.ensures ∙ nil_from_length xs (eqb-true (length xs) 0 (sym c.is_empty.ensures ∙ c.if-is_empty.true)) in
    let empty : events_of_asked a ≡ [] = no_events (IsEventOf (case_of_asked a)) flat_tree (events_of_asked a) a.loaded.tops.over c.requires.events none in
    subst (λ es. HasReported (case_of_asked a) es a.loaded.depth (size_of_asked a) a.stem.now status.Done (g.D.Desk.told c.args.desk.now).files (g.D.Desk.told c.args.desk.now).files (g.D.Desk.told c.args.desk.now).said (g.D.Desk.told c.args.desk.now).said) (sym empty)
    (none_reported (case_of_asked a) a.loaded.depth (size_of_asked a) a.stem.now (g.D.Desk.told c.args.desk.now).files (g.D.Desk.told c.args.desk.now).said)

pub of_case-requires-clause-searchable : goal.of_case-requires-clause-searchable
of_case-requires-clause-searchable g c =
    let a = c.args.asked.now in
    let xs = c.as_slice-tops.result.now in
    let some = some_there xs c.is_empty.result c.is_empty.ensures c.if-is_empty.false in
    let event =
    first_at (IsEventOf (case_of_asked a)) flat_tree (events_of_asked a) xs 0 c.index-tops-0.result
    (subst (λ trees. EachBoth (IsEventOf (case_of_asked a)) (events_of_asked a) (map flat_tree trees)) (sym c.as_slice-tops.ensures) c.requires.events) some c.index-tops-0.is in
    event_searchable (program_tree a.loaded.model.program) a.loaded.case c.requires.extensible event.0 (flat_tree c.index-tops-0.result) event.1

pub search_in-requires-clause-system : goal.search_in-requires-clause-system
search_in-requires-clause-system g c = c.in_ok-frames.ensures ∙ ap (λ v. system_of (whole_in v)) c.in_ok-model.ensures.model

pub returns-then-is_empty-clause-stays : goal.returns-then-is_empty-clause-stays
returns-then-is_empty-clause-stays g c = record { later = omega arith; quiet = λ q. (q, refl) }
