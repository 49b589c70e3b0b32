use Rattle.std.proofs.Common.{arith, sym, ap, subst, ◌∙◌}
use Rattle.smv_language.specs.Language.{program_tree, flat_tree}
use Rattle.sat_encoding_laws.specs.Lists.{system_of}
use Rattle.cut_model_search.specs.Certifiable.{IsCertifiable}
use Rattle.cut_model_search.specs.FaultyModels.{faulty_case, whole_in, AnswersSearch}
use Rattle.cut_model_search.specs.Reports.{IsReported}
use Rattle.cut_model_search.proofs.Certifying.{of_searched}
use Rattle.verb_run.proofs.TopEvents.{few_in_case, event_searchable}
use Rattle.verb_tops.proofs.EventLaws.{event_searched, event_finding}
use Rattle.verb_tops.proofs.event.search_event.Goals as goal

pub size_of-size-requires : goal.size_of-size-requires
size_of-size-requires g c =
    let a = c.args.asked.now.loaded in
    let few = few_in_case (program_tree a.model.program) a.case c.requires.able.extensible in
    let counted = c.len.ensures in
    omega (arith, few, counted)

pub of_case-requires-clause-searchable : goal.of_case-requires-clause-searchable
of_case-requires-clause-searchable g c =
    let a = c.args.asked.now.loaded in
    event_searchable (program_tree a.model.program) a.case c.requires.able.extensible c.requires.event.0 (flat_tree c.args.top.now) c.requires.event.1

pub analyse_in-requires : goal.analyse_in-requires
analyse_in-requires g c = c.requires.system ∙ sym (ap (λ v. system_of (whole_in v)) c.in_ok-model.ensures.model)

pub certificate-requires : goal.certificate-requires
certificate-requires g c =
    let a = c.args.asked.now.loaded in
    let found = c.in_ok-a.a in
    let answer = subst (λ v. AnswersSearch v a.depth c.size_of-size.result found) c.in_ok-model.ensures.model c.in_ok-a.ensures.answer in
    subst (λ v. IsCertifiable v found) (sym c.in_ok-model.ensures.model)
    (of_searched (faulty_case a.case c.args.top.now) a.depth found
    (event_searched (program_tree a.model.program) a.case c.requires.able.extensible c.args.asked.now.size c.len.result c.size_of-size.result c.len.ensures c.size_of-size.ensures
    c.requires.event.0 c.args.top.now c.requires.event.1 a.depth found answer c.in_ok-model.ensures.few))

pub returns-clause-found : goal.returns-clause-found
returns-clause-found g c e event =
    let a = c.args.asked.now.loaded in
    event_finding (program_tree a.model.program) a.case c.requires.able.extensible c.args.asked.now.size c.len.result c.size_of-size.result c.len.ensures c.size_of-size.ensures
    e c.args.top.now event a.depth c.in_ok-a.a c.args.number c.in_ok-cert.cert c.in_ok-report.report c.in_ok-report-2.report c.told.result
    (subst (λ v. IsReported v a.depth c.size_of-size.result c.in_ok-a.a c.in_ok-cert.cert c.in_ok-report.report) c.in_ok-model.ensures.model
    (record { answer = c.in_ok-a.ensures.answer; certified = c.in_ok-cert.ensures; reported = c.in_ok-report.ensures }))
    c.told.ensures c.in_ok-report-2.ensures
