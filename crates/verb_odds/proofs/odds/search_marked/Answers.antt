use Rattle.std.proofs.Common.{arith, subst}
use Rattle.smv_language.specs.Language.{program_tree, flat_tree}
use Rattle.cut_model_search.specs.FaultyModels.{AnswersSearch}
use Rattle.cut_model_search.proofs.Analysable.{case_few, case_searchable}
use Rattle.verb_odds.proofs.FoundLaws.{sets_named, odds_found}
use Rattle.verb_odds.proofs.odds.search_marked.Goals as goal

pub size_of-size-requires : goal.size_of-size-requires
size_of-size-requires g c =
    let a = c.args.marked.now in
    let few = case_few (program_tree a.loaded.model.program) a.loaded.case a.word.now (flat_tree a.loaded.top) c.requires.event in
    let counted = c.len.ensures in
    omega (arith, few, counted)

pub of_case-requires-clause-searchable : goal.of_case-requires-clause-searchable
of_case-requires-clause-searchable g c =
    let a = c.args.marked.now in case_searchable (program_tree a.loaded.model.program) a.loaded.case a.word.now (flat_tree a.loaded.top) c.requires.event

pub report_of-requires : goal.report_of-requires
report_of-requires g c =
    let a = c.args.marked.now in
    record { named = sets_named (program_tree a.loaded.model.program) a.loaded.case a.word.now (flat_tree a.loaded.top) c.requires.event a.odds c.requires.odds a.depth c.size_of-size.result c.in_ok-a.a (subst (λ v. AnswersSearch v a.depth c.size_of-size.result c.in_ok-a.a) c.in_ok-model.ensures.model c.in_ok-a.ensures) }

pub returns : goal.returns
returns g c =
    let a = c.args.marked.now in
    odds_found (program_tree a.loaded.model.program) a.loaded.case a.word.now (flat_tree a.loaded.top) c.requires.event a.odds c.requires.odds a.depth c.len.result c.size_of-size.result
    c.in_ok-a.a c.told-ending.result c.in_ok-report.report c.len.ensures c.size_of-size.ensures (subst (λ v. AnswersSearch v a.depth c.size_of-size.result c.in_ok-a.a) c.in_ok-model.ensures.model c.in_ok-a.ensures) c.told-ending.ensures c.in_ok-report.ensures
