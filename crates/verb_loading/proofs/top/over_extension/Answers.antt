use Rattle.std.proofs.Common.{[], sym, subst, ◌∙◌}
use Rattle.std.proofs.lemmas.Result.{err_from_is_err_and}
use Rattle.smv_language.specs.Language.{program_tree, tree_of, flat_tree, model_tree}
use Rattle.smv_flat.specs.ResolvedAt.{IsAt}
use Rattle.smv_flat_laws.specs.ResolvedAt.{IsResolvedAt}
use Rattle.verb_loading.proofs.Told.{if_refused}
use Rattle.verb_loading.proofs.TopLaws.{main_is_at, names_untold}
use Rattle.verb_loading.proofs.top.over_extension.Goals as goal
use Rattle.smv_flat_laws.specs.Items.{main_instance}

pub resolve_at-requires : goal.resolve_at-requires
resolve_at-requires c = record { scope = (program_tree c.args.case.now.limited.woven.program, c.requires.scope) }

pub returns-in_err-made-clause-wrong : goal.returns-in_err-made-clause-wrong
returns-in_err-made-clause-wrong c =
    let exit = err_from_is_err_and c.from_residual.result c.from_residual.ensures.1 in
    let q = program_tree c.args.case.now.limited.woven.program in
    let m = model_tree c.args.case.now.limited.typed.model in
    let here : IsAt q (model_tree c.model.result.now) 0 main_instance = subst (λ k. IsAt q (model_tree k) 0 main_instance) (sym c.model.ensures.model) (main_is_at q m c.requires.accepted c.requires.flat) in
    rw exit.1 (if_refused (λ told. ⊥) _ (λ told is.
    names_untold q (tree_of c.args.top.now) c.in_err-made.field-0.0 told c.requires.names (c.in_err-made.ensures.fault q c.requires.scope main_instance here) (is ∙ exit.2)))

pub returns-clause-ok : goal.returns-clause-ok
returns-clause-ok c =
    let q = program_tree c.args.case.now.limited.woven.program in
    let m = model_tree c.args.case.now.limited.typed.model in
    let here : IsAt q (model_tree c.model.result.now) 0 main_instance = subst (λ k. IsAt q (model_tree k) 0 main_instance) (sym c.model.ensures.model) (main_is_at q m c.requires.accepted c.requires.flat) in
    subst (λ k. IsResolvedAt q (model_tree k) [] (tree_of c.args.top.now) (flat_tree c.in_ok-made.made)) c.model.ensures.model (c.in_ok-made.ensures.resolved q c.requires.scope main_instance here)
