use Rattle.std.proofs.Common.{[], false, sym, subst}
use Rattle.std.proofs.lemmas.Result.{err_from_is_err_and, IfOk-weaker, IfErr-weaker}
use Rattle.smv_language.specs.Language.{program_tree, tree_of, flat_tree, model_tree}
use Rattle.smv_flat_laws.specs.ResolvedAt.{IsResolvedAt}
use Rattle.smv_flat_laws.specs.Rules.{IsAccepted}
use Rattle.smv_flat_laws.specs.Model.{IsFlatOf}
use Rattle.verb_loading.specs.Wrongs.{IfRefused}
use Rattle.verb_loading.specs.Cases.{IsWrongTop, IsWrongWord, not_kept}
use Rattle.verb_loading.specs.LoadedCases.{case_of, IsTopIn, IsWrongTopText}
use Rattle.verb_loading.proofs.Told.{refused_weaker}
use Rattle.verb_loading.proofs.TopLaws.{names_over, top_over}
use Rattle.verb_loading.proofs.TopLemmas.{wrong_text}
use Rattle.verb_loading.proofs.top.top_of.Goals as goal
use Rattle.smv_flat_laws.specs.ValueRules.{KeepsValue}

pub returns-in_err-written-clause-wrong : goal.returns-in_err-written-clause-wrong
returns-in_err-written-clause-wrong c =
    let exit = err_from_is_err_and c.from_residual.result c.from_residual.ensures.1 in
    let p = program_tree c.args.model.now.program in
    rw (exit.1, exit.2) (refused_weaker (IsWrongTopText c.args.bytes.now) (IsWrongWord p c.args.bytes.now) (wrong_text p c.args.bytes.now) _ c.in_err-written.ensures.wrong)

pub returns-in_err-judge_top-clause-wrong : goal.returns-in_err-judge_top-clause-wrong
returns-in_err-judge_top-clause-wrong c =
    let exit = err_from_is_err_and c.from_residual-in_err-judge_top.result c.from_residual-in_err-judge_top.ensures.1 in
    let p = program_tree c.args.model.now.program in
    let e = tree_of c.in_ok-written.written in
    let text = c.in_ok-written.ensures.ok in
    rw (exit.1, exit.2) (refused_weaker (IsWrongTop p e 0) (IsWrongWord p c.args.bytes.now) (λ told bad. not_kept e text.short text.spelled text.depths bad) _ c.in_err-judge_top.ensures.wrong)

pub scope_of-requires : goal.scope_of-requires
scope_of-requires c = c.requires.lawful.accepted

pub returns-in_err-scope-clause-wrong : goal.returns-in_err-scope-clause-wrong
returns-in_err-scope-clause-wrong c =
    let exit = err_from_is_err_and c.from_residual-in_err-scope.result c.from_residual-in_err-scope.ensures.1 in
    let p = program_tree c.args.model.now.program in
    rw (exit.1, exit.2) (refused_weaker (λ told. ⊥) (IsWrongWord p c.args.bytes.now) (λ told bad. absurd bad) _ c.in_err-scope.ensures.wrong)

pub scope_of-requires-2 : goal.scope_of-requires-2
scope_of-requires-2 c = subst IsAccepted (sym c.requires.loaded.program) c.requires.loaded.is_case.within.accepted

pub returns-in_err-wide-clause-wrong : goal.returns-in_err-wide-clause-wrong
returns-in_err-wide-clause-wrong c =
    let exit = err_from_is_err_and c.from_residual-in_err-wide.result c.from_residual-in_err-wide.ensures.1 in
    let p = program_tree c.args.model.now.program in
    rw (exit.1, exit.2) (refused_weaker (λ told. ⊥) (IsWrongWord p c.args.bytes.now) (λ told bad. absurd bad) _ c.in_err-wide.ensures.wrong)

pub over_extension-requires-clause-accepted : goal.over_extension-requires-clause-accepted
over_extension-requires-clause-accepted c = subst IsAccepted (sym c.requires.loaded.program) c.requires.loaded.is_case.within.accepted

pub over_extension-requires-clause-flat : goal.over_extension-requires-clause-flat
over_extension-requires-clause-flat c =
    subst (λ q. IsFlatOf q (model_tree c.args.case.now.limited.typed.model)) (sym c.requires.loaded.program) c.requires.loaded.is_case.is_flat.is

pub over_extension-requires-clause-names : goal.over_extension-requires-clause-names
over_extension-requires-clause-names c =
    let p = program_tree c.args.model.now.program in
    let e = tree_of c.in_ok-written.written in
    let l = c.args.case.now in
    subst (λ q. KeepsValue q [] false e) (sym c.requires.loaded.program)
    (names_over (case_of p l) c.requires.loaded.is_case (model_tree c.args.model.now.typed.model) c.requires.lawful e c.in_ok-judge_top.ensures.ok)

pub returns-clause-wrong : goal.returns-clause-wrong
returns-clause-wrong c =
    let p = program_tree c.args.model.now.program in
    IfErr-weaker c.over_extension.result (IfRefused (λ told. ⊥)) (IfRefused (IsWrongWord p c.args.bytes.now)) (refused_weaker (λ told. ⊥) (IsWrongWord p c.args.bytes.now) (λ told bad. absurd bad)) c.over_extension.ensures.wrong

pub returns-clause-ok : goal.returns-clause-ok
returns-clause-ok c =
    let p = program_tree c.args.model.now.program in
    let e = tree_of c.in_ok-written.written in
    let l = c.args.case.now in
    IfOk-weaker c.over_extension.result
    (λ made. IsResolvedAt (program_tree l.limited.woven.program) (model_tree l.limited.typed.model) [] e (flat_tree made))
    (λ made. IsTopIn (case_of p l) c.args.bytes.now (flat_tree made))
    (λ made resolved. top_over (case_of p l) c.requires.loaded.is_case (model_tree c.args.model.now.typed.model) c.requires.lawful c.args.bytes.now e (flat_tree made) c.in_ok-written.ensures.ok c.in_ok-judge_top.ensures.ok
    (subst (λ q. IsResolvedAt q (model_tree l.limited.typed.model) [] e (flat_tree made)) c.requires.loaded.program resolved))
    c.over_extension.ensures.ok
