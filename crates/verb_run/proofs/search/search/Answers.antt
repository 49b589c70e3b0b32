use Rattle.std.proofs.Common.{arith, sym, subst}
use Rattle.smv_language.specs.Language.{program_tree, flat_tree}
use Rattle.cut_model_search.specs.Certifiable.{IsCertifiable}
use Rattle.cut_model_search.specs.FaultyModels.{faulty_case, AnswersSearch}
use Rattle.cut_model_search.specs.Reports.{IsReported}
use Rattle.cut_model_search.proofs.Analysable.{case_few, case_searchable}
use Rattle.cut_model_search.proofs.Certifying.{of_searched}
use Rattle.verb_run.proofs.Findings.{case_searched, case_found}
use Rattle.verb_run.proofs.search.search.Goals as goal

pub size_of-size-requires : goal.size_of-size-requires
size_of-size-requires g c =
    let a = c.args.asked.now in
    let few = case_few (program_tree a.loaded.model.program) a.loaded.case a.word.now (flat_tree a.loaded.top) c.requires in
    let counted = c.len.ensures in
    omega (arith, few, counted)

pub of_case-requires-clause-searchable : goal.of_case-requires-clause-searchable
of_case-requires-clause-searchable g c =
    let a = c.args.asked.now in case_searchable (program_tree a.loaded.model.program) a.loaded.case a.word.now (flat_tree a.loaded.top) c.requires

pub certificate-requires : goal.certificate-requires
certificate-requires g c =
    let a = c.args.asked.now in
    let found = c.in_ok-a.a in
    let answer = subst (λ v. AnswersSearch v a.depth c.size_of-size.result found) c.in_ok-model.ensures.model c.in_ok-a.ensures in
    subst (λ v. IsCertifiable v found) (sym c.in_ok-model.ensures.model)
    (of_searched (faulty_case a.loaded.case a.loaded.top) a.depth found
    (case_searched (program_tree a.loaded.model.program) a.loaded.case a.word.now a.loaded.top c.requires a.size c.len.result c.size_of-size.result c.len.ensures c.size_of-size.ensures
    a.depth found c.in_ok-model.ensures.few answer))

pub returns : goal.returns
returns g c =
    let a = c.args.asked.now in
    case_found (program_tree a.loaded.model.program) a.loaded.case a.word.now a.loaded.top c.requires a.size c.len.result c.size_of-size.result c.len.ensures c.size_of-size.ensures
    a.depth c.in_ok-a.a c.in_ok-cert.cert c.in_ok-report.report c.told.result
    (subst (λ v. IsReported v a.depth c.size_of-size.result c.in_ok-a.a c.in_ok-cert.cert c.in_ok-report.report) c.in_ok-model.ensures.model
    (record { answer = c.in_ok-a.ensures; certified = c.in_ok-cert.ensures; reported = c.in_ok-report.ensures }))
    c.told.ensures
