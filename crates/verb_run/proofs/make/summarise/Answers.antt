use Rattle.std.proofs.Common.{arith, length, ap, subst, ◌∙◌}
use Rattle.smv_language.specs.Language.{program_tree, flat_tree}
use Rattle.verb_run.specs.GeneratedCase.{dead_word}
use Rattle.cut_model_search.specs.FaultyModels.{AnswersSearch}
use Rattle.cut_model_search.proofs.Analysable.{case_few, case_searchable}
use Rattle.verb_run.proofs.MakeLaws.{summarised}
use Rattle.verb_run.proofs.make.summarise.Goals as goal

pub size_of-size-requires : goal.size_of-size-requires
size_of-size-requires g c =
    let l = c.args.asked.now.made.loaded in
    let few = case_few (program_tree l.model.program) l.case dead_word (flat_tree l.top) c.requires in
    let counted = c.len.ensures in
    omega (arith, few, counted)

pub of_case-requires-clause-searchable : goal.of_case-requires-clause-searchable
of_case-requires-clause-searchable g c =
    let l = c.args.asked.now.made.loaded in case_searchable (program_tree l.model.program) l.case dead_word (flat_tree l.top) c.requires

pub returns : goal.returns
returns g c =
    let m = c.args.asked.now in
    let l = m.made.loaded in
    summarised (program_tree l.model.program) l.case (flat_tree l.top) c.requires _ _ _ _ (c.len-2.ensures ∙ ap (λ k. length k.variables) c.model.ensures.model) c.len-3.ensures c.bits.ensures.bits
    m.stages m.depth c.size_of-size.result c.in_ok-a.a c.in_ok-line.line c.told-ending.result (c.size_of-size.ensures ∙ c.len.ensures) c.len-4.ensures (subst (λ v. AnswersSearch v m.depth c.size_of-size.result c.in_ok-a.a) c.in_ok-searched.ensures.model c.in_ok-a.ensures) c.told-ending.ensures c.in_ok-line.ensures
