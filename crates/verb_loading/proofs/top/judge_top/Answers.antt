use Rattle.std.proofs.Common.{[], sym, subst, ◌∙◌}
use Rattle.std.proofs.lemmas.Result.{err_from_is_err_and}
use Rattle.smv_language.specs.Language.{program_tree, tree_of, flat_tree, model_tree}
use Rattle.smv_flat.specs.ResolvedAt.{IsAt}
use Rattle.smv_flat_laws.specs.ResolvedAt.{IsResolvedAt}
use Rattle.verb_loading.specs.Cases.{IsWrongTop}
use Rattle.verb_loading.proofs.Told.{if_refused}
use Rattle.verb_loading.proofs.TopLaws.{main_is_at, wrong_by_names, wrong_by_kinds, kinds_kept, top_of_parts}
use Rattle.verb_loading.proofs.top.judge_top.Goals as goal
use Rattle.smv_flat_laws.specs.Items.{main_instance}

pub resolve_at-requires : goal.resolve_at-requires
resolve_at-requires c = record { scope = (program_tree c.args.model.now.program, c.requires.scope) }

pub returns-in_err-flat-clause-wrong : goal.returns-in_err-flat-clause-wrong
returns-in_err-flat-clause-wrong c =
    let exit = err_from_is_err_and c.from_residual.result c.from_residual.ensures.1 in
    let p = program_tree c.args.model.now.program in
    let e = tree_of c.args.top.now in
    let m = model_tree c.args.model.now.typed.model in
    let lawful = c.requires.lawful in
    let here : IsAt p (model_tree c.model.result.now) 0 main_instance = subst (λ k. IsAt p (model_tree k) 0 main_instance) (sym c.model.ensures.model) (main_is_at p m lawful.accepted lawful.model.is) in
    rw exit.1 (if_refused (IsWrongTop p e 0) _ (λ told is. wrong_by_names p e c.in_err-flat.field-0.0 told (c.in_err-flat.ensures.fault p c.requires.scope main_instance here) (is ∙ exit.2)))

pub returns-in_err-check_top-clause-wrong : goal.returns-in_err-check_top-clause-wrong
returns-in_err-check_top-clause-wrong c =
    let exit = err_from_is_err_and c.from_residual-in_err-check_top.result c.from_residual-in_err-check_top.ensures.1 in
    let p = program_tree c.args.model.now.program in
    let e = tree_of c.args.top.now in
    let m = model_tree c.args.model.now.typed.model in
    let lawful = c.requires.lawful in
    let here : IsAt p (model_tree c.model.result.now) 0 main_instance = subst (λ k. IsAt p (model_tree k) 0 main_instance) (sym c.model.ensures.model) (main_is_at p m lawful.accepted lawful.model.is) in
    let resolved = subst (λ k. IsResolvedAt p (model_tree k) [] e (flat_tree c.in_ok-flat.flat)) c.model.ensures.model (c.in_ok-flat.ensures.resolved p c.requires.scope main_instance here) in
    rw exit.1 (if_refused (IsWrongTop p e 0) _ (λ told is.
    wrong_by_kinds p e m (flat_tree c.in_ok-flat.flat) c.in_err-check_top.field-0.0 told lawful (c.in_ok-flat.ensures.kept p c.requires.scope main_instance here) resolved (sym c.in_err-check_top.was ∙ c.check_top.ensures.answer) (is ∙ exit.2)))

pub returns-clause-ok : goal.returns-clause-ok
returns-clause-ok c =
    let p = program_tree c.args.model.now.program in
    let e = tree_of c.args.top.now in
    let m = model_tree c.args.model.now.typed.model in
    let lawful = c.requires.lawful in
    let here : IsAt p (model_tree c.model.result.now) 0 main_instance = subst (λ k. IsAt p (model_tree k) 0 main_instance) (sym c.model.ensures.model) (main_is_at p m lawful.accepted lawful.model.is) in
    let resolved = subst (λ k. IsResolvedAt p (model_tree k) [] e (flat_tree c.in_ok-flat.flat)) c.model.ensures.model (c.in_ok-flat.ensures.resolved p c.requires.scope main_instance here) in
    top_of_parts p e m (flat_tree c.in_ok-flat.flat) lawful (c.in_ok-flat.ensures.kept p c.requires.scope main_instance here) resolved (kinds_kept _ _ (sym c.in_ok-check_top.was ∙ c.check_top.ensures.answer))
