use Rattle.std.proofs.Common.{arith, sym, ap, subst, ◌∙◌}
use Rattle.smv_language.specs.Language.{program_tree, flat_tree}
use Rattle.cut_model_search.specs.FaultyModels.{whole_in, AnswersSearch}
use Rattle.sat_encoding_laws.specs.Lists.{system_of}
use Rattle.verb_run.proofs.TopEvents.{few_in_case, event_searchable}
use Rattle.verb_run.proofs.Columns.{column_found}
use Rattle.verb_run.proofs.tops.column_of.Goals as goal

pub size_of-size-requires : goal.size_of-size-requires
size_of-size-requires g c =
    let a = c.args.asked.now in
    let few = few_in_case (program_tree a.model.program) a.case c.requires.able in
    let counted = c.len.ensures in
    omega (arith, few, counted)

pub of_case-requires-clause-searchable : goal.of_case-requires-clause-searchable
of_case-requires-clause-searchable g c =
    let a = c.args.asked.now in
    event_searchable (program_tree a.model.program) a.case c.requires.able c.requires.event.0 (flat_tree c.args.top.now) c.requires.event.1

pub analyse_in-requires : goal.analyse_in-requires
analyse_in-requires g c = c.requires.system ∙ sym (ap (λ v. system_of (whole_in v)) c.in_ok-model.ensures.model)

pub returns-clause-column : goal.returns-clause-column
returns-clause-column g c e event =
    let a = c.args.asked.now in
    column_found (program_tree a.model.program) a.case c.requires.able e (flat_tree c.args.top.now) event a.depth c.in_ok-a.a c.len.result c.size_of-size.result c.len.ensures c.size_of-size.ensures
    (subst (λ v. AnswersSearch v a.depth c.size_of-size.result c.in_ok-a.a) c.in_ok-model.ensures.model c.in_ok-a.ensures.answer) c.told-ending.result c.told-ending.ensures
